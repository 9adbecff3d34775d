-- Looking a kind up by its name.
use Rattle.std.proofs.Common.{◌≡◌, ℕ, ◌+◌, ◌<◌, false, List, drop, length, get_or, refl, add-one}
use Rattle.std.specs.Str.{bytes_eq}
use Rattle.std.proofs.Math.Seq.{drop-cons}
use Rattle.wasi_base.specs.declared.io_kind.IoKind.{IoKind}
use Rattle.wasi_base.specs.IoKind.{kind_name, named_among}

-- a kind of another name is passed over
pub named_past : (kinds : List IoKind) (i : ℕ) (kind : IoKind) (name : List ℕ) → i < length kinds → bytes_eq name (kind_name (get_or kinds i kind)) ≡ false → named_among (drop (i + 1) kinds) name ≡ named_among (drop i kinds) name
named_past kinds i kind name within other = rw (add-one, drop-cons kinds i kind within, other) refl
