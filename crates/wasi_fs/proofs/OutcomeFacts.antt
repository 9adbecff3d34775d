-- What a call leaves of the nodes, it leaves of the tree.
use Rattle.std.proofs.Common.{◌≡◌, List, Result, Ok, Err, Bool, false, refl, ap, sym, subst}
use Rattle.wasi_fs_types.specs.declared.error_code.ErrorCode.{ErrorCode}
use Rattle.wasi_fs_nodes.specs.Outcome.{then, unless, Leaves as LeavesNodes, LeavesAlways as NodesAlways}
use Rattle.wasi_fs_nodes.specs.declared.node.Node.{Node}
use Rattle.wasi_fs_nodes.specs.declared.store_error.StoreError.{StoreError}
use Rattle.wasi_fs_nodes.specs.declared.store_error.StoreError.TheVariants.{Code, OutOfMemory}
use Rattle.wasi_base.specs.declared.trappable.TrappableError.{TrappableError}
use Rattle.wasi_base.specs.declared.trappable.TrappableError.TheVariants.{Normal, Trap, OutOfMemory as TrapMemory}
use Rattle.wasi_fs.specs.Trees.{TreeState, with_nodes}
use Rattle.wasi_fs.specs.Outcome.{Leaves, LeavesAlways, Gives, GivesIn, told, from_store, done}

-- what a change leaves of the nodes, it leaves of the tree
pub leaves_done : {A : Type 0} (old : TreeState) (nodes : List Node) (r : Result A StoreError) (outcome : Result (List Node) ErrorCode)
    → LeavesNodes old.nodes nodes r outcome → Leaves old (with_nodes old nodes) (done r) outcome
leaves_done old nodes (Ok a) outcome h = (h, refl)
leaves_done old nodes (Err (Code code)) outcome h = (h.0, ap (with_nodes old) h.1)
leaves_done old nodes (Err OutOfMemory) outcome h = (h.0, ap (with_nodes old) h.1)

pub leaves_tree : {A : Type 0} (old : TreeState) (nodes : List Node) (r : Result A StoreError) (outcome : Result (List Node) ErrorCode)
    → LeavesNodes old.nodes nodes r outcome → Leaves old (with_nodes old nodes) (from_store r) outcome
leaves_tree old nodes (Ok a) outcome h = (h, refl)
leaves_tree old nodes (Err (Code code)) outcome h = (h.0, ap (with_nodes old) h.1)
leaves_tree old nodes (Err OutOfMemory) outcome h = (h.0, ap (with_nodes old) h.1)

pub gives_tree : {A : Type 0} (old : TreeState) (nodes : List Node) (r : Result A StoreError) (outcome : Result (A × List Node) ErrorCode)
    → GivesIn old.nodes nodes r outcome → Gives old (with_nodes old nodes) (from_store r) outcome
gives_tree old nodes (Ok a) outcome h = (h, refl)
gives_tree old nodes (Err (Code code)) outcome h = (h.0, ap (with_nodes old) h.1)
gives_tree old nodes (Err OutOfMemory) outcome h = (h.0, ap (with_nodes old) h.1)

pub leaves_always : {A : Type 0} (old : TreeState) (nodes : List Node) (r : Result A ErrorCode) (outcome : Result (List Node) ErrorCode)
    → NodesAlways old.nodes nodes r outcome → LeavesAlways old (with_nodes old nodes) (told r) outcome
leaves_always old nodes (Ok a) outcome h = (h, refl)
leaves_always old nodes (Err code) outcome h = (h.0, ap (with_nodes old) h.1)

-- what takes no memory leaves what a change leaves
pub always_leaves : {A : Type 0} (old new : TreeState) (r : Result A (TrappableError ErrorCode)) (outcome : Result (List Node) ErrorCode) → LeavesAlways old new r outcome → Leaves old new r outcome
always_leaves old new (Ok a) outcome h = h
always_leaves old new (Err (Normal code)) outcome h = h
always_leaves old new (Err (Trap text)) outcome h = h
always_leaves old new (Err TrapMemory) outcome h = absurd h

-- the same, of a tree that was opened
pub change_done : {A : Type 0} (inside old : TreeState) → inside ≡ old → (nodes : List Node) (r : Result A StoreError) (answer : Result (Unit {0}) (TrappableError ErrorCode)) → answer ≡ done r
    → (outcome : List Node → Result (List Node) ErrorCode) → LeavesNodes inside.nodes nodes r (outcome inside.nodes) → Leaves old (with_nodes inside nodes) answer (outcome old.nodes)
change_done inside old e nodes r answer told outcome h =
    let P : TreeState → Type 0 = λ t. Leaves t (with_nodes inside nodes) answer (outcome t.nodes) in
    let Q : Result (Unit {0}) (TrappableError ErrorCode) → Type 0 = λ a. Leaves inside (with_nodes inside nodes) a (outcome inside.nodes) in
    subst P e (subst Q (sym told) (leaves_done inside nodes r (outcome inside.nodes) h))

pub change_told : {A : Type 0} (inside old : TreeState) → inside ≡ old → (nodes : List Node) (r : Result A StoreError) (answer : Result A (TrappableError ErrorCode)) → answer ≡ from_store r
    → (outcome : List Node → Result (List Node) ErrorCode) → LeavesNodes inside.nodes nodes r (outcome inside.nodes) → Leaves old (with_nodes inside nodes) answer (outcome old.nodes)
change_told {A} inside old e nodes r answer told outcome h =
    let P : TreeState → Type 0 = λ t. Leaves t (with_nodes inside nodes) answer (outcome t.nodes) in
    let Q : Result A (TrappableError ErrorCode) → Type 0 = λ a. Leaves inside (with_nodes inside nodes) a (outcome inside.nodes) in
    subst P e (subst Q (sym told) (leaves_tree inside nodes r (outcome inside.nodes) h))

pub change_gives : {A : Type 0} (inside old : TreeState) → inside ≡ old → (nodes : List Node) (r : Result A StoreError) (answer : Result A (TrappableError ErrorCode)) → answer ≡ from_store r
    → (outcome : List Node → Result (A × List Node) ErrorCode) → GivesIn inside.nodes nodes r (outcome inside.nodes) → Gives old (with_nodes inside nodes) answer (outcome old.nodes)
change_gives {A} inside old e nodes r answer told outcome h =
    let P : TreeState → Type 0 = λ t. Gives t (with_nodes inside nodes) answer (outcome t.nodes) in
    let Q : Result A (TrappableError ErrorCode) → Type 0 = λ a. Gives inside (with_nodes inside nodes) a (outcome inside.nodes) in
    subst P e (subst Q (sym told) (gives_tree inside nodes r (outcome inside.nodes) h))

pub change_always : {A : Type 0} (inside old : TreeState) → inside ≡ old → (nodes : List Node) (r : Result A ErrorCode) (answer : Result A (TrappableError ErrorCode)) → answer ≡ told r
    → (outcome : List Node → Result (List Node) ErrorCode) → NodesAlways inside.nodes nodes r (outcome inside.nodes) → LeavesAlways old (with_nodes inside nodes) answer (outcome old.nodes)
change_always {A} inside old e nodes r answer known outcome h =
    let P : TreeState → Type 0 = λ t. LeavesAlways t (with_nodes inside nodes) answer (outcome t.nodes) in
    let Q : Result A (TrappableError ErrorCode) → Type 0 = λ a. LeavesAlways inside (with_nodes inside nodes) a (outcome inside.nodes) in
    subst P e (subst Q (sym known) (leaves_always inside nodes r (outcome inside.nodes) h))

-- a test that was passed
pub then_known : {A T : Type 0} (old new : TreeState) (answer : Result T (TrappableError ErrorCode)) (r : Result A ErrorCode) (a : A) (f : A → Result (List Node) ErrorCode)
    → r ≡ Ok a → Leaves old new answer (f a) → Leaves old new answer (then r f)
then_known {A} old new answer r a f e h = let P : Result A ErrorCode → Type 0 = λ r. Leaves old new answer (then r f) in subst P (sym e) h

pub unless_not : {T : Type 0} (old new : TreeState) (answer : Result T (TrappableError ErrorCode)) (b : Bool) (refusal : ErrorCode) (on : Result (List Node) ErrorCode)
    → b ≡ false → Leaves old new answer on → Leaves old new answer (unless b refusal on)
unless_not old new answer b refusal on e h = let P : Bool → Type 0 = λ b. Leaves old new answer (unless b refusal on) in subst P (sym e) h

pub always_known : {A T : Type 0} (old new : TreeState) (answer : Result T (TrappableError ErrorCode)) (r : Result A ErrorCode) (a : A) (f : A → Result (List Node) ErrorCode)
    → r ≡ Ok a → LeavesAlways old new answer (f a) → LeavesAlways old new answer (then r f)
always_known {A} old new answer r a f e h = let P : Result A ErrorCode → Type 0 = λ r. LeavesAlways old new answer (then r f) in subst P (sym e) h
