-- What a write to the nodes' file is to a tree as a store.
use Rattle.std.specs.Prelude.{⊤}
use Rattle.std.proofs.Common.{◌≡◌, ℕ, ◌+◌, ◌≤◌, List, [], ◌∷◌, length, Option, Some, None, Result, Ok, Err, is_ok, Bool, true, false, cond, eqb, ltb, refl, ap, sym, subst, ◌∙◌, arith}
use Rattle.std.proofs.lemmas.Bool.{eqb-true}
use Rattle.std.proofs.lemmas.Bool.Decides.{nat_tests}
use Rattle.std.proofs.lemmas.List.{length-append, length-take, length-drop, length-replicate}
use Rattle.wasi_base.specs.declared.io_kind.IoKind.{IoKind}
use Rattle.wasi_fs_types.specs.declared.error_code.ErrorCode.{ErrorCode}
use Rattle.wasi_fs_nodes.specs.Bodies.{with_bytes}
use Rattle.wasi_fs_nodes.specs.Changes.{nodes_after, wrote}
use Rattle.wasi_fs_nodes.specs.Content.{written}
use Rattle.wasi_fs_nodes.specs.Writes.{Limits, passed, place_in, Write, Fault, Refusal, Nothing, Bytes, bytes_unless, write_from}
use Rattle.wasi_fs_nodes.specs.Nodes.{kind_at, bytes_at}
use Rattle.wasi_fs_nodes.specs.Outcome.{Leaves}
use Rattle.wasi_fs_nodes.specs.declared.at.At.{At}
use Rattle.wasi_fs_nodes.specs.declared.at.At.TheVariants as at
use Rattle.wasi_fs_nodes.specs.declared.node.Node.{Node}
use Rattle.wasi_fs_nodes.specs.declared.node.Kind.TheVariants as kinds
use Rattle.wasi_fs_nodes.specs.declared.store_error.StoreError.{StoreError}
use Rattle.wasi_fs_nodes.specs.declared.store_error.StoreError.TheVariants.{Code, OutOfMemory}
use Rattle.wasi_fs.specs.Stores.{fault_of, is_too_low, write_unless, write_of, taken, Took, after_write, unless_no_memory, counted, bytes_after, told_after_write}
use Rattle.wasi_fs.specs.Trees.{TreeState, with_nodes, after_fault}
use Rattle.wasi_fs.specs.TreeStore.{tree_told, HasFile, with_file}
use Rattle.wasi_fs.specs.laws.Bound.{told_of, bytes_changed, total_grown}

-- ONE FILE OF MANY
same_at : (g : ℕ → List ℕ) (f file : ℕ) → cond (eqb f file) (g file) (g f) ≡ g f
same_at g f file = by (eqb f file) refl
  where
    by : (b : Bool) → eqb f file ≡ b → cond b (g file) (g f) ≡ g f
    by true e = ap g (sym (eqb-true f file e))
    by false e = refl

no_shorter : (bytes : List ℕ) (place : ℕ) (more : List ℕ) → length bytes ≤ length (written bytes place more)
no_shorter bytes place more = omega (arith, length-append {A = ℕ}, length-drop {A = ℕ}, length-take {A = ℕ}, length-replicate {A = ℕ})

-- what meets no fault, and takes no bytes away
abbrev Grows : List ℕ → Write → Type 0
Grows bytes (Fault c) = ⊥
Grows bytes (Refusal c) = ⊤
Grows bytes Nothing = ⊤
Grows bytes (Bytes now) = length bytes ≤ length now

-- THE NODES AFTER A WRITE
not_below : (offset : ℕ) → ltb offset 0 ≡ false
not_below offset = grind (arith, nat_tests)

no_fault : (planned : Option IoKind) (to : At) → planned ≡ None → fault_of planned (is_too_low 0 to) ≡ None
no_fault planned at.End e = ap (λ p. fault_of p false) e
no_fault planned (at.Offset offset) e = ap (λ p. fault_of p (ltb offset 0)) e ∙ ap (fault_of None) (not_below offset)

no_shorter_unless : (bytes : List ℕ) (place : ℕ) (more : List ℕ) (o : Option ErrorCode) → Grows bytes (bytes_unless o (written bytes place more))
no_shorter_unless bytes place more None = no_shorter bytes place more
no_shorter_unless bytes place more (Some c) = tt

grows : (limits : Option Limits) (bytes : List ℕ) (place : ℕ) (more : List ℕ) → Grows bytes (write_from limits bytes place more)
grows limits bytes place [] = tt
grows limits bytes place (c ∷ more) = no_shorter_unless bytes place (c ∷ more) (passed limits (length bytes) (place + length (c ∷ more)))

-- what a tree's nodes become is what the same write comes to in the tree as a store
abbrev Agrees : TreeState → ℕ → Write → Result (List Node) ErrorCode → Type 0
Agrees old file write outcome = (outcome ≡ nodes_after old.nodes file write) × Grows (bytes_at old.nodes file) write

agree : (old : TreeState) (file : ℕ) (to : At) (more : List ℕ) → old.planned ≡ None
    → Agrees old file (write_of (tree_told old) (bytes_at old.nodes file) to more) (wrote old.nodes file to more)
agree old file to more e =
    let bytes : List ℕ = bytes_at old.nodes file in
    let place : ℕ = place_in 0 (length bytes) to in
    let write : Write = write_from (tree_told old).limits bytes place more in
    let P : Option ErrorCode → Type 0 = λ fault. Agrees old file (write_unless fault write) (wrote old.nodes file to more) in
    subst P (sym (no_fault old.planned to e)) (refl, grows (tree_told old).limits bytes place more)

-- WHAT A WRITE TO A TREE IS
pub record IsWrite (old new : TreeState) (file count : ℕ) (write : Write) (result : Result ℕ StoreError) : Type 0 where
  pub takes : Took result (taken write count)
  pub tells : tree_told new ≡ unless_no_memory result (tree_told old) (told_after_write (tree_told old) (bytes_at old.nodes file) write)
  pub changes : (f : ℕ) → bytes_at new.nodes f ≡ unless_no_memory result (bytes_at old.nodes f) (cond (eqb f file) (bytes_after (bytes_at old.nodes file) write) (bytes_at old.nodes f))
  pub rest : new ≡ unless_no_memory result old (after_write after_fault (with_file old file) old write)

is_write_of : (old : TreeState) (nodes : List Node) (file count : ℕ) (write : Write) (outcome : Result (List Node) ErrorCode) (r : Result (Unit {0}) StoreError)
    → kind_at old.nodes file ≡ Some kinds.File → Agrees old file write outcome → Leaves old.nodes nodes r outcome
    → IsWrite old (with_nodes old nodes) file count write (counted r count)
is_write_of old nodes file count (Fault c) outcome r k a l = absurd a.1
is_write_of old nodes file count (Refusal c) outcome (Ok done) k a l = let e : outcome ≡ Err c = a.0 in absurd (cc)
is_write_of old nodes file count (Refusal c) outcome (Err (Code d)) k a l = record {
  takes = let same : c ≡ d = cc (sym a.0 ∙ l.0) in ap Err same;
  tells = ap (λ ns. tree_told (with_nodes old ns)) l.1;
  changes = λ f. ap (λ ns. bytes_at ns f) l.1 ∙ sym (same_at (bytes_at old.nodes) f file);
  rest = ap (with_nodes old) l.1;
}
is_write_of old nodes file count (Refusal c) outcome (Err OutOfMemory) k a l = let e : outcome ≡ Err c = a.0 in let ok : is_ok outcome ≡ true = l.0 in absurd (cc)
is_write_of old nodes file count Nothing outcome (Ok done) k a l =
    let e : outcome ≡ Ok old.nodes = a.0 in
    let same : nodes ≡ old.nodes = cc in
    record {
      takes = refl;
      tells = ap (λ ns. tree_told (with_nodes old ns)) same;
      changes = λ f. ap (λ ns. bytes_at ns f) same ∙ sym (same_at (bytes_at old.nodes) f file);
      rest = ap (with_nodes old) same;
    }
is_write_of old nodes file count Nothing outcome (Err (Code d)) k a l = let e : outcome ≡ Ok old.nodes = a.0 in let f : outcome ≡ Err d = l.0 in absurd (cc)
is_write_of old nodes file count Nothing outcome (Err OutOfMemory) k a l = record {
  takes = refl;
  tells = ap (λ ns. tree_told (with_nodes old ns)) l.1;
  changes = λ f. ap (λ ns. bytes_at ns f) l.1;
  rest = ap (with_nodes old) l.1;
}
is_write_of old nodes file count (Bytes now) outcome (Ok done) k a l =
    let e : outcome ≡ Ok (with_bytes old.nodes file now) = a.0 in
    let same : nodes ≡ with_bytes old.nodes file now = cc in
    record {
      takes = refl;
      tells = ap (λ ns. tree_told (with_nodes old ns)) same ∙ ap (told_of old) (total_grown now old.nodes file k a.1);
      changes = λ f. ap (λ ns. bytes_at ns f) same ∙ bytes_changed now old.nodes f file k;
      rest = ap (with_nodes old) same;
    }
is_write_of old nodes file count (Bytes now) outcome (Err (Code d)) k a l =
    let e : outcome ≡ Ok (with_bytes old.nodes file now) = a.0 in
    let f : outcome ≡ Err d = l.0 in absurd (cc)
is_write_of old nodes file count (Bytes now) outcome (Err OutOfMemory) k a l = record {
  takes = refl;
  tells = ap (λ ns. tree_told (with_nodes old ns)) l.1;
  changes = λ f. ap (λ ns. bytes_at ns f) l.1;
  rest = ap (with_nodes old) l.1;
}

pub is_write : (old : TreeState) (nodes : List Node) (file : ℕ) (to : At) (more : List ℕ) (r : Result (Unit {0}) StoreError) → old.planned ≡ None → HasFile old file
    → Leaves old.nodes nodes r (wrote old.nodes file to more)
    → IsWrite old (with_nodes old nodes) file (length more) (write_of (tree_told old) (bytes_at old.nodes file) to more) (counted r (length more))
is_write old nodes file to more r e k l =
    is_write_of old nodes file (length more) (write_of (tree_told old) (bytes_at old.nodes file) to more) (wrote old.nodes file to more) r k (agree old file to more e) l

-- the same, of what the calls answered
pub is_written : (old new : TreeState) (file : ℕ) (to : At) (more : List ℕ) (r : Result (Unit {0}) StoreError) (answer : Result ℕ StoreError) → new ≡ with_nodes old new.nodes → answer ≡ counted r (length more)
    → old.planned ≡ None → HasFile old file → Leaves old.nodes new.nodes r (wrote old.nodes file to more)
    → IsWrite old new file (length more) (write_of (tree_told old) (bytes_at old.nodes file) to more) answer
is_written old new file to more r answer rest told e k l =
    let write : Write = write_of (tree_told old) (bytes_at old.nodes file) to more in
    let P : TreeState → Type 0 = λ t. IsWrite old t file (length more) write answer in
    let Q : Result ℕ StoreError → Type 0 = λ a. IsWrite old (with_nodes old new.nodes) file (length more) write a in
    subst P (sym rest) (subst Q (sym told) (is_write old new.nodes file to more r e k l))
