-- Bytes that a random source gives again and again are one at least.
use Rattle.std.specs.Prelude.{◌<◌, length}
use Rattle.wasi_script.specs.declared.lines.Setting.{Setting}
use Rattle.wasi_script.specs.declared.lines.Setting.TheVariants as setting

abbrev pub SettingFits : Setting → Type 0
SettingFits (setting.Random source bytes) = 0 < length bytes
SettingFits other = Unit {0}
