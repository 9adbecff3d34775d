-- A path and its components.
use Rattle.std.specs.Prelude.{◌≡◌, ℕ, ◌<◌, List, [], ◌∷◌, length, codes, Bool, not, ◌&&◌, ◌==◌, eqb, bytes_eq}
use Rattle.std.specs.List.{filter, slice_split, starts_with, ends_with}

-- the parts between slashes
abbrev pub parts : List ℕ → List (List ℕ)
parts path = slice_split (λ b. b == 47) path

-- empty parts and `.` are passed over
abbrev pub counts : List ℕ → Bool
counts part = not (bytes_eq part []) && not (bytes_eq part (codes "."))

-- THE COMPONENTS OF A PATH
unfoldable pub components : List ℕ → List (List ℕ)
components path = filter counts (parts path)

-- the component that goes back to the directory above
abbrev pub is_parent : List ℕ → Bool
is_parent name = bytes_eq name (codes "..")

abbrev pub is_empty : List ℕ → Bool
is_empty path = length path == 0

abbrev pub begins_with_slash : List ℕ → Bool
begins_with_slash path = starts_with eqb path (codes "/")

-- the trailing slash is the path's last byte
abbrev pub ends_with_slash : List ℕ → Bool
ends_with_slash path = ends_with eqb path (codes "/")

-- the first component, and what stands after it
pub record IsNext (path name after : List ℕ) : Type 0 where
  pub is : components path ≡ name ∷ components after
  pub less : length after < length path
