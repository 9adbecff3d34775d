-- The words for kinds of fault.
use Rattle.std.specs.Prelude.{ℕ, List, [], ◌∷◌, codes, Option, Some, None, cond}
use Rattle.std.specs.Str.{bytes_eq}
use Rattle.std.specs.declared.io.ErrorKind.{ErrorKind}
use Rattle.std.specs.declared.io.ErrorKind.TheVariants as system
use Rattle.wasi_base.specs.declared.io_kind.IoKind.{IoKind}
use Rattle.wasi_base.specs.declared.io_kind.IoKind.TheVariants.{BrokenPipe, NotFound, PermissionDenied, IsADirectory, WriteZero, Interrupted, InvalidData, Other}

abbrev pub kind_name : IoKind → List ℕ
kind_name BrokenPipe = codes "brokenpipe"
kind_name NotFound = codes "notfound"
kind_name PermissionDenied = codes "permissiondenied"
kind_name IsADirectory = codes "isadirectory"
kind_name WriteZero = codes "writezero"
kind_name Interrupted = codes "interrupted"
kind_name InvalidData = codes "invaliddata"
kind_name Other = codes "other"

abbrev pub kinds : List IoKind
kinds = BrokenPipe ∷ NotFound ∷ PermissionDenied ∷ IsADirectory ∷ WriteZero ∷ Interrupted ∷ InvalidData ∷ Other ∷ []

-- the first of these kinds whose name it is
abbrev pub named_among : List IoKind → List ℕ → Option IoKind
named_among [] name = None
named_among (kind ∷ others) name = cond (bytes_eq name (kind_name kind)) (Some kind) (named_among others name)

abbrev pub kind_named : List ℕ → Option IoKind
kind_named name = named_among kinds name

-- a kind of the system's as one of these
abbrev pub kind_from : ErrorKind → IoKind
kind_from system.BrokenPipe = BrokenPipe
kind_from system.NotFound = NotFound
kind_from system.PermissionDenied = PermissionDenied
kind_from system.IsADirectory = IsADirectory
kind_from system.WriteZero = WriteZero
kind_from system.Interrupted = Interrupted
kind_from system.InvalidData = InvalidData
kind_from _ = Other
