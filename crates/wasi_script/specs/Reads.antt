-- What a text is read as.
use Rattle.std.specs.Prelude.{◌≡◌, List, Vec, Option, Some, None, Result, Ok, Err}
use Rattle.std.specs.declared.alloc.Global.{Global}
use Rattle.wasi_script.specs.declared.refusal.Refusal.{Refusal}
use Rattle.wasi_script.specs.declared.refusal.Refusal.TheVariants.{Invalid, OutOfMemory}

-- read as what it stands for, refused where it stands for nothing, or out of memory
abbrev pub Reads : {A : Type 0} → Result A Refusal → Option A → Type 0
Reads (Ok it) meaning = meaning ≡ Some it
Reads (Err Invalid) meaning = meaning ≡ None
Reads (Err OutOfMemory) meaning = Unit {0}

-- the same for a list of items
abbrev pub ReadsItems : {A : Type 0} → Result (Vec A Global) Refusal → Option (List A) → Type 0
ReadsItems (Ok items) meaning = meaning ≡ Some items.items
ReadsItems (Err Invalid) meaning = meaning ≡ None
ReadsItems (Err OutOfMemory) meaning = Unit {0}
