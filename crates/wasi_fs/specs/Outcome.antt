-- What a call answers and leaves, by what its definition says.
use Rattle.std.specs.Prelude.{◌≡◌, List, Result, Ok, Err, IsOk}
use Rattle.wasi_base.specs.declared.trappable.TrappableError.{TrappableError}
use Rattle.wasi_base.specs.declared.trappable.TrappableError.TheVariants.{Normal, Trap, OutOfMemory}
use Rattle.wasi_fs_types.specs.declared.error_code.ErrorCode.{ErrorCode}
use Rattle.wasi_fs_nodes.specs.declared.node.Node.{Node}
use Rattle.wasi_fs_nodes.specs.declared.store_error.StoreError.{StoreError}
use Rattle.wasi_fs_nodes.specs.declared.store_error.StoreError.TheVariants as store
use Rattle.wasi_fs.specs.Trees.{TreeState, with_nodes}

-- a refusal is told to the guest
abbrev pub told : {A : Type 0} → Result A ErrorCode → Result A (TrappableError ErrorCode)
told (Ok a) = Ok a
told (Err code) = Err (Normal code)

-- .. and so is what the nodes answer
abbrev pub from_store : {A : Type 0} → Result A StoreError → Result A (TrappableError ErrorCode)
from_store (Ok a) = Ok a
from_store (Err (store.Code code)) = Err (Normal code)
from_store (Err store.OutOfMemory) = Err OutOfMemory

-- the same, where what was made is not told
abbrev pub done : {A : Type 0} → Result A StoreError → Result (Unit {0}) (TrappableError ErrorCode)
done (Ok a) = Ok tt
done (Err (store.Code code)) = Err (Normal code)
done (Err store.OutOfMemory) = Err OutOfMemory

-- WHAT AN ANSWER SAYS, by its kind: done, refused with a code, or without memory. No call of a tree traps.
abbrev pub Says : {A : Type 0} → Result A (TrappableError ErrorCode) → (A → Type 0) → (ErrorCode → Type 0) → Type 0 → Type 0
Says (Ok a) done refused no_memory = done a
Says (Err (Normal code)) done refused no_memory = refused code
Says (Err (Trap text)) done refused no_memory = ⊥
Says (Err OutOfMemory) done refused no_memory = no_memory

-- A LOOK-UP THAT TAKES MEMORY: the definition says its answer, and there is no memory only where it would not be refused
abbrev pub Answers : {A : Type 0} → Result A (TrappableError ErrorCode) → Result A ErrorCode → Type 0
Answers result outcome = Says result (λ a. outcome ≡ Ok a) (λ code. outcome ≡ Err code) (IsOk outcome)

-- A CHANGE: the definition says the nodes that it leaves, and it changes nothing else. A refusal changes nothing, nor does
-- out of memory, which comes only where there is no refusal.
abbrev pub Leaves : {A : Type 0} → TreeState → TreeState → Result A (TrappableError ErrorCode) → Result (List Node) ErrorCode → Type 0
Leaves old new result outcome = Says result
    (λ a. (outcome ≡ Ok new.nodes) × (new ≡ with_nodes old new.nodes))
    (λ code. (outcome ≡ Err code) × (new ≡ old))
    (IsOk outcome × (new ≡ old))

-- .. that takes no memory
abbrev pub LeavesAlways : {A : Type 0} → TreeState → TreeState → Result A (TrappableError ErrorCode) → Result (List Node) ErrorCode → Type 0
LeavesAlways old new result outcome = Says result
    (λ a. (outcome ≡ Ok new.nodes) × (new ≡ with_nodes old new.nodes))
    (λ code. (outcome ≡ Err code) × (new ≡ old))
    ⊥

-- .. that answers something
abbrev pub Gives : {A : Type 0} → TreeState → TreeState → Result A (TrappableError ErrorCode) → Result (A × List Node) ErrorCode → Type 0
Gives old new result outcome = Says result
    (λ a. (outcome ≡ Ok (a, new.nodes)) × (new ≡ with_nodes old new.nodes))
    (λ code. (outcome ≡ Err code) × (new ≡ old))
    (IsOk outcome × (new ≡ old))

-- A CALL ON DATA: the definition says its answer and the tree after it, also where it meets a planned fault
abbrev pub Meets : {A : Type 0} → TreeState → TreeState → Result A (TrappableError ErrorCode) → Result A ErrorCode × TreeState → Type 0
Meets old new result outcome = Says result (λ a. outcome ≡ (Ok a, new)) (λ code. outcome ≡ (Err code, new)) (IsOk outcome.0 × (new ≡ old))

-- A CHANGE OF THE NODES ALONE that answers something
abbrev pub GivesIn : {A : Type 0} → List Node → List Node → Result A StoreError → Result (A × List Node) ErrorCode → Type 0
GivesIn old new (Ok a) outcome = outcome ≡ Ok (a, new)
GivesIn old new (Err (store.Code code)) outcome = (outcome ≡ Err code) × (new ≡ old)
GivesIn old new (Err store.OutOfMemory) outcome = IsOk outcome × (new ≡ old)
