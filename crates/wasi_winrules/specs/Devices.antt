-- Paths that name a device and no file.
use Rattle.std.specs.Prelude.{ℕ, Bool, false, not, ◌||◌, ◌==◌, Option, Some, None, List, [], ◌∷◌, ◌++◌, length, map, codes, filter, if◌then◌else◌}
use Rattle.std.specs.List.{slice_split, last_or, before_first, list_any}
use Rattle.std.specs.Str.{bytes_eq, drop_trailing_whitespace, str_to_ascii_uppercase}
use Rattle.wasi_winrules.specs.Paths.{is_separator}

-- a part between separators is a component, unless it is empty or `.`
abbrev pub is_component : List ℕ → Bool
is_component part = not (length part == 0 || bytes_eq part (codes "."))

abbrev pub components : List ℕ → List (List ℕ)
components path = filter is_component (slice_split is_separator path)

abbrev pub last_component : List ℕ → Option (List ℕ)
last_component path = last_or None (components path)

abbrev pub is_dot : ℕ → Bool
is_dot unit = unit == 46

-- what stands before its first dot after its first unit, or all of it
abbrev pub stem : List ℕ → List ℕ
stem [] = []
stem (first ∷ rest) = first ∷ before_first is_dot rest

abbrev pub device_name : List ℕ → List ℕ
device_name component = str_to_ascii_uppercase (drop_trailing_whitespace (stem component))

abbrev pub plain_devices : List (List ℕ)
plain_devices = codes "CON" ∷ codes "PRN" ∷ codes "AUX" ∷ codes "NUL" ∷ []

-- 0 to 9, ¹, ² and ³
abbrev pub port_numbers : List ℕ
port_numbers = codes "0123456789" ++ (185 ∷ 178 ∷ 179 ∷ [])

abbrev pub numbered : List ℕ → List (List ℕ)
numbered port = map (λ number. port ++ (number ∷ [])) port_numbers

abbrev pub port_devices : List (List ℕ)
port_devices = numbered (codes "COM") ++ numbered (codes "LPT")

abbrev pub devices : List (List ℕ)
devices = plain_devices ++ port_devices

abbrev pub is_device : List ℕ → Bool
is_device name = list_any (bytes_eq name) devices

-- its last component, which is not `..`, has the name of a device
abbrev pub named_device : Option (List ℕ) → Bool
named_device None = false
named_device (Some component) = if bytes_eq component (codes "..") then false else is_device (device_name component)

abbrev pub is_reserved : List ℕ → Bool
is_reserved path = named_device (last_component path)
