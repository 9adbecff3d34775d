-- What a host shows of the shared input, and what follows where somebody asks for bytes.
use Rattle.std.proofs.Common.{◌≡◌, ℕ, ◌+◌, ◌-◌, ◌<◌, ◌≤◌, min, max, Bool, true, false, cond, List, [], ◌∷◌, ◌++◌, length, get_or, set, take, drop, Option, Some, None, refl, ap, arith, ◌∙◌, sym, subst, append_assoc, take-append-drop, append-nil}
use Rattle.std.specs.Prelude.{eqb, nat_eq}
use Rattle.std.specs.Ordering.{nat_cmp}
use Rattle.std.specs.FinMap as map
use Rattle.std.specs.FinSet.{FinSet}
use Rattle.std.proofs.lemmas.Bool.Decides.{nat_tests}
use Rattle.std.proofs.lemmas.Grind.{common_steps}
use Rattle.wasi_base.specs.declared.io_kind.IoKind.{IoKind}
use Rattle.wasi_base.specs.declared.io_kind.IoKind.TheVariants.{BrokenPipe}
use Rattle.wasi_base.specs.Source.{Told}
use Rattle.wasi_stdin.specs.declared.mode.Mode.{Mode}
use Rattle.wasi_stdin.specs.declared.mode.Mode.TheVariants.{Idle, Asked, Held, Failed, Closed}
use Rattle.wasi_stdin.specs.Shared.{Shared, Met, Handed, IsSound, HoldsIn, CapturedIn, met_in, after_in, reading, told_fault, polling, wait_of, mode_holding}
use Rattle.wasi_table.specs.Table.{Held as Row, held_at, parent_in, next_number, new_table, with_pushed, without}
use Rattle.wasi_table.specs.laws.Kept.{held-insert, held-remove}
use Rattle.wasi_script.specs.declared.lines.Input.{Input}
use Rattle.wasi_host.specs.declared.entry.Entry.{Entry}
use Rattle.wasi_host.specs.declared.entry.Entry.TheVariants as entry
use Rattle.wasi_host.specs.declared.entry.SharedEntry.TheVariants as on
use Rattle.wasi_reply.specs.declared.reply.Told.TheVariants as tell
use Rattle.wasi_host.specs.Calls.{Settings}
use Rattle.wasi_host.specs.Contexts.{ByContext, at_context}
use Rattle.wasi_host.specs.Deeds.{Own, with_kept}
use Rattle.wasi_host.specs.Calls.{reading_told, polling_told}
use Rattle.wasi_host.specs.Host.{Guest, new_guest}
use Rattle.wasi_host.specs.Run.{Standing, Sharing, is_shared, at_number, with_standing, without_standing, held_count, held_front, after_row, read_row, poll_row, wait_row, fault_to_read}
use Rattle.wasi_host.specs.Run as run

abbrev pub parent_or : Option ℕ → ℕ
parent_or None = 0
parent_or (Some parent) = parent

-- entries on streams are no matter of the shared input
abbrev pub standing_by : Entry → Option ℕ → Option Standing
standing_by (entry.Shared on.Reader) parent = Some run.Reader
standing_by (entry.Shared (on.Polled wait)) parent = Some (run.Polled wait)
standing_by (entry.Shared (on.Pollable wait)) parent = Some (run.Pollable (parent_or parent) wait)
standing_by other parent = None

abbrev pub standing_at : Option (Row Entry) → Option Standing
standing_at None = None
standing_at (Some held) = standing_by held.entry held.parent

abbrev pub standing_in : Own → ℕ → Option Standing
standing_in own n = standing_at (held_at own.table n)

abbrev pub standing_with : Option Guest → ℕ → Option Standing
standing_with None n = None
standing_with (Some guest) n = standing_in guest.own n

abbrev pub shares_of : ByContext Settings → Option ℕ → Bool
shares_of settings of = is_shared (at_context of settings).input

abbrev pub shares_in : Option Guest → Option ℕ → Bool
shares_in None = λ of. false
shares_in (Some guest) = shares_of guest.settings

abbrev pub capacity_in : Option Guest → ℕ
capacity_in None = 1024
capacity_in (Some guest) = guest.own.table.capacity

abbrev pub ended_in : Option Guest → Bool
ended_in None = false
ended_in (Some guest) = guest.ended

-- what a host shows of the shared input, where `front` was handed out and these numbers are live
abbrev pub shown : List ℕ → Shared → (ℕ → Option Guest) → (ℕ → FinSet nat_cmp) → Told → Sharing
shown front shared guests live told = record {
  told = told;
  handed = length front;
  given = length front + length shared.held;
  mode = shared.mode;
  captured = shared.captured;
  deliveries = shared.deliveries;
  standing = λ g. standing_with (guests g);
  live = live;
  shares = λ g. shares_in (guests g);
  capacity = λ g. capacity_in (guests g);
  ended = λ g. ended_in (guests g);
}

cond_map : {A B : Type 0} (f : A → B) (b : Bool) (x y : A) → f (cond b x y) ≡ cond b (f x) (f y)
cond_map f true x y = refl
cond_map f false x y = refl

pub cond_same : {A : Type 0} (f : ℕ → A) (m n : ℕ) (x : A) → f n ≡ x → cond (nat_eq m n) x (f m) ≡ f m
cond_same f m n x e = grind (arith, nat_tests)

pub get_set : {A : Type 0} (xs : List A) (n m : ℕ) (x d : A) → n < length xs → get_or (set xs n x) m d ≡ cond (nat_eq m n) x (get_or xs m d)
get_set xs n m x d h = grind (arith, nat_tests, common_steps)

-- what is shown once a guest is another
pub shown_put : (front : List ℕ) (shared : Shared) (guests : ℕ → Option Guest) (live : ℕ → FinSet nat_cmp) (told : Told) (n : ℕ) (guest : Guest) → shown front shared (at_number guests n (Some guest)) live told ≡ record (shown front shared guests live told) { standing = at_number (shown front shared guests live told).standing n (standing_with (Some guest)); shares = at_number (shown front shared guests live told).shares n (shares_of guest.settings); capacity = at_number (shown front shared guests live told).capacity n guest.own.table.capacity; ended = at_number (shown front shared guests live told).ended n guest.ended }
shown_put front shared guests live told n guest = λ i. record (shown front shared guests live told) {
  standing = λ g. cond_map {B = ℕ → Option Standing} standing_with (nat_eq g n) (Some guest) (guests g) i;
  shares = λ g. cond_map {B = Option ℕ → Bool} shares_in (nat_eq g n) (Some guest) (guests g) i;
  capacity = λ g. cond_map capacity_in (nat_eq g n) (Some guest) (guests g) i;
  ended = λ g. cond_map ended_in (nat_eq g n) (Some guest) (guests g) i;
}

-- a guest whose own is another
abbrev pub with_own : Guest → Own → Guest
with_own guest own = record { settings = guest.settings; own = own; sources = guest.sources; was_called = true; ended = guest.ended }

pub put_own : (front : List ℕ) (shared : Shared) (guests : ℕ → Option Guest) (live : ℕ → FinSet nat_cmp) (told : Told) (n : ℕ) (guest : Guest) (own : Own) (standing : ℕ → Option Standing) → guests n ≡ Some guest → standing_with (Some (with_own guest own)) ≡ standing → own.table.capacity ≡ guest.own.table.capacity → shown front shared (at_number guests n (Some (with_own guest own))) live told ≡ record (shown front shared guests live told) { standing = at_number (shown front shared guests live told).standing n standing }
put_own front shared guests live told n guest own standing e is same =
    shown_put front shared guests live told n (with_own guest own)
    ∙ (λ i. record (shown front shared guests live told) {
      standing = at_number (shown front shared guests live told).standing n (is i);
      shares = λ g. cond_same {A = Option ℕ → Bool} (λ (m : ℕ). shares_in (guests m)) g n (shares_of guest.settings) (ap shares_in e) i;
      capacity = λ g. cond_same {A = ℕ} (λ (m : ℕ). capacity_in (guests m)) g n own.table.capacity (ap capacity_in e ∙ sym same) i;
      ended = λ g. cond_same {A = Bool} (λ (m : ℕ). ended_in (guests m)) g n guest.ended (ap ended_in e) i;
    })

-- a guest whose entries show what they did
pub put_alike : (front : List ℕ) (shared : Shared) (guests : ℕ → Option Guest) (live : ℕ → FinSet nat_cmp) (told : Told) (n : ℕ) (guest : Guest) (own : Own) → guests n ≡ Some guest → standing_with (Some (with_own guest own)) ≡ standing_with (Some guest) → own.table.capacity ≡ guest.own.table.capacity → shown front shared (at_number guests n (Some (with_own guest own))) live told ≡ shown front shared guests live told
put_alike front shared guests live told n guest own e is same =
    put_own front shared guests live told n guest own (standing_with (Some guest)) e is same
    ∙ (λ i. record (shown front shared guests live told) { standing = λ g. cond_same {A = ℕ → Option Standing} (λ (m : ℕ). standing_with (guests m)) g n (standing_with (Some guest)) (ap standing_with e) i })

pub put_same : (front : List ℕ) (shared : Shared) (guests : ℕ → Option Guest) (live : ℕ → FinSet nat_cmp) (told : Told) (n : ℕ) (guest : Guest) → guests n ≡ Some guest → shown front shared (at_number guests n (Some (with_own guest guest.own))) live told ≡ shown front shared guests live told
put_same front shared guests live told n guest e = put_alike front shared guests live told n guest guest.own e refl refl

-- one number's entry is another, and the rest stays
pub stands_there : (guests : ℕ → Option Guest) (n : ℕ) (guest : Guest) → guests n ≡ Some guest → standing_with (guests n) ≡ standing_in guest.own
stands_there guests n guest e = ap standing_with e

pub put_standing : (front : List ℕ) (shared : Shared) (guests : ℕ → Option Guest) (live : ℕ → FinSet nat_cmp) (told : Told) (n k : ℕ) (guest : Guest) (own : Own) (it : Standing) → guests n ≡ Some guest → ((m : ℕ) → standing_in own m ≡ cond (nat_eq m k) (Some it) (standing_in guest.own m)) → own.table.capacity ≡ guest.own.table.capacity → shown front shared (at_number guests n (Some (with_own guest own))) live told ≡ with_standing (shown front shared guests live told) n k it
put_standing front shared guests live told n k guest own it e is same = put_own front shared guests live told n guest own (at_number ((shown front shared guests live told).standing n) k (Some it)) e (λ i m. (is m ∙ ap (λ (standing : ℕ → Option Standing). cond (nat_eq m k) (Some it) (standing m)) (sym (stands_there guests n guest e))) i) same

pub put_none : (front : List ℕ) (shared : Shared) (guests : ℕ → Option Guest) (live : ℕ → FinSet nat_cmp) (told : Told) (n k : ℕ) (guest : Guest) (own : Own) → guests n ≡ Some guest → ((m : ℕ) → standing_in own m ≡ cond (nat_eq m k) None (standing_in guest.own m)) → own.table.capacity ≡ guest.own.table.capacity → shown front shared (at_number guests n (Some (with_own guest own))) live told ≡ without_standing (shown front shared guests live told) n k
put_none front shared guests live told n k guest own e is same = put_own front shared guests live told n guest own (at_number ((shown front shared guests live told).standing n) k None) e (λ i m. (is m ∙ ap (λ (standing : ℕ → Option Standing). cond (nat_eq m k) None (standing m)) (sym (stands_there guests n guest e))) i) same

-- nothing stands in a new table
pub nothing_stands : (capacity : ℕ) → standing_in (record { table = new_table capacity }) ≡ (λ n. None)
nothing_stands capacity = λ i n. standing_at (map.get-empty {X = Row Entry} nat_cmp n i)

-- what stands where an entry is written, pushed or taken
pub standing_kept : (own : Own) (n : ℕ) (it : Entry) (parent : Option ℕ) (m : ℕ) → parent_in (held_at own.table n) ≡ parent → standing_in (with_kept own n it) m ≡ cond (nat_eq m n) (standing_by it parent) (standing_in own m)
standing_kept own n it parent m e =
    ap standing_at (held-insert own.table.entries n (record { entry = it; parent = parent_in (held_at own.table n) }) m)
    ∙ cond_map standing_at (eqb m n) (Some (record { entry = it; parent = parent_in (held_at own.table n) })) (held_at own.table m)
    ∙ ap (λ parent. cond (nat_eq m n) (standing_by it parent) (standing_in own m)) e

pub standing_pushed : (own : Own) (it : Entry) (parent : Option ℕ) (m : ℕ) → standing_in (record { table = with_pushed own.table it parent }) m ≡ cond (nat_eq m (next_number own.table)) (standing_by it parent) (standing_in own m)
standing_pushed own it parent m =
    ap standing_at (held-insert own.table.entries (next_number own.table) (record { entry = it; parent = parent }) m)
    ∙ cond_map standing_at (eqb m (next_number own.table)) (Some (record { entry = it; parent = parent })) (held_at own.table m)

pub standing_dropped : (own : Own) (n m : ℕ) → standing_in (record { table = without own.table n }) m ≡ cond (nat_eq m n) None (standing_in own m)
standing_dropped own n m =
    ap standing_at (held-remove own.table.entries n m)
    ∙ cond_map standing_at (eqb m n) None (held_at own.table m)

-- each context of a new guest reads what its main one does
new_shares : (reads : Input) (of : Option ℕ) → shares_of (new_guest reads).settings of ≡ is_shared reads
new_shares reads None = refl
new_shares reads (Some id) = refl

-- a new guest shows where it reads, and nothing else
pub declare_shown : (front : List ℕ) (shared : Shared) (guests : ℕ → Option Guest) (live : ℕ → FinSet nat_cmp) (told : Told) (n : ℕ) (reads : Input) → guests n ≡ None → shown front shared (at_number guests n (Some (new_guest reads))) live told ≡ record (shown front shared guests live told) { shares = at_number (shown front shared guests live told).shares n (λ of. is_shared reads) }
declare_shown front shared guests live told n reads e = shown_put front shared guests live told n (new_guest reads) ∙ (λ i. record (shown front shared guests live told) {
  standing = λ g. cond_same {A = ℕ → Option Standing} (λ (m : ℕ). standing_with (guests m)) g n (standing_with (Some (new_guest reads))) (ap standing_with e ∙ sym (nothing_stands 1024)) i;
  shares = at_number (shown front shared guests live told).shares n (λ of. new_shares reads of i);
  capacity = λ g. cond_same {A = ℕ} (λ (m : ℕ). capacity_in (guests m)) g n 1024 (ap capacity_in e) i;
  ended = λ g. cond_same {A = Bool} (λ (m : ℕ). ended_in (guests m)) g n false (ap ended_in e) i;
})

handed_more : (front held : List ℕ) (size : ℕ) → length (front ++ take size held) ≡ length front + min size (length front + length held - length front)
handed_more front held size = grind (arith, common_steps)

given_same : (front held : List ℕ) (size : ℕ) → length (front ++ take size held) + length (drop size held) ≡ length front + length held
given_same front held size = grind (arith, common_steps)

mode_after : (front held : List ℕ) (size : ℕ) → mode_holding (drop size held) ≡ cond (nat_eq (min size (length front + length held - length front)) (length front + length held - length front)) Idle Held
mode_after front held size = elim (drop size held) as (λ rest. drop size held ≡ rest → mode_holding rest ≡ cond (nat_eq (min size (length front + length held - length front)) (length front + length held - length front)) Idle Held) [
  | [] ↦ λ e. let past : length held ≤ size = (let l = ap length e in grind (arith, common_steps)) in grind (arith, nat_tests)
  | x ∷ xs ↦ λ e. let short : size < length held = (let l = ap length e in grind (arith, common_steps)) in grind (arith, nat_tests)
] refl

bytes_at : (input front held left : List ℕ) (size : ℕ) → input ≡ front ++ (held ++ left) → take size held ≡ take (min size (length front + length held - length front)) (drop (length front) input)
bytes_at input front held left size e = rw e (grind (arith, common_steps))

input_after : (input front held left : List ℕ) (size : ℕ) → input ≡ front ++ (held ++ left) → input ≡ (front ++ take size held) ++ (drop size held ++ left)
input_after input front held left size e = e ∙ ap (λ held. front ++ (held ++ left)) (sym (take-append-drop size held)) ∙ ap (λ rest. front ++ rest) (append_assoc (take size held) (drop size held) left) ∙ sym (append_assoc front (take size held) (drop size held ++ left))

asked_any : (c : Option ℕ) (n k : ℕ) → CapturedIn (Asked n) c → CapturedIn (Asked k) c
asked_any None n k h = tt
asked_any (Some size) n k h = h

pub asked_none : (c : Option ℕ) (k : ℕ) → c ≡ None → CapturedIn (Asked k) c
asked_none None k h = tt
asked_none (Some size) k h = absurd (cc)

holding_sound : (held : List ℕ) (c : Option ℕ) (d : ℕ) → c ≡ None → IsSound (record { mode = mode_holding held; held = held; captured = c; deliveries = d })
holding_sound [] c d h = record { holds = refl; captures = h }
holding_sound (b ∷ bytes) c d h = record { holds = omega arith; captures = h }

pub sound_at : (m : Mode) (s : Shared) → s.mode ≡ m → IsSound s → HoldsIn m s.held × CapturedIn m s.captured
sound_at m s is sound = (subst (λ m. HoldsIn m s.held) is sound.holds, subst (λ m. CapturedIn m s.captured) is sound.captures)

fault_read : (kind : IoKind) → reading_told (told_fault kind) ≡ fault_to_read kind
fault_read BrokenPipe = refl
fault_read kind = refl

-- the bytes that one who asks is handed
abbrev pub met_bytes : Met → List ℕ
met_bytes (Handed bytes) = bytes
met_bytes other = []

-- One who asks for bytes, in a mode: what is handed out then, and that what is shown follows the mode's row.
pub record RowNext (m : Mode) (input front : List ℕ) (shared : Shared) (told : Told) (size : ℕ) : Type 0 where
  pub front' : List ℕ
  pub front_is : front' ≡ front ++ met_bytes (met_in m shared.held size)
  pub input_is : input ≡ front' ++ ((after_in m shared size).held ++ told.left)
  pub sound : IsSound (after_in m shared size)
  pub state : (guests : ℕ → Option Guest) (live : ℕ → FinSet nat_cmp) → shown front' (after_in m shared size) guests live told ≡ after_row m (shown front shared guests live told) size
  pub read : (guests : ℕ → Option Guest) (live : ℕ → FinSet nat_cmp) → reading_told (reading (met_in m shared.held size)) ≡ read_row m input (shown front shared guests live told) size
  pub poll : (guests : ℕ → Option Guest) (live : ℕ → FinSet nat_cmp) → polling_told (polling (met_in m shared.held size)) ≡ poll_row m input (shown front shared guests live told) size
  pub wait : (guests : ℕ → Option Guest) (live : ℕ → FinSet nat_cmp) → wait_of (met_in m shared.held size) shared.deliveries ≡ wait_row m (shown front shared guests live told)

pub row_next : (m : Mode) (input front : List ℕ) (shared : Shared) (told : Told) (size : ℕ) → shared.mode ≡ m → IsSound shared → input ≡ front ++ (shared.held ++ told.left) → RowNext m input front shared told size
row_next Idle input front shared told size is sound e = let at = sound_at Idle shared is sound in record { front' = front; front_is = sym (append-nil front); input_is = e; sound = record { holds = at.0; captures = asked_none shared.captured size at.1 }; state = λ guests live. refl; read = λ guests live. refl; poll = λ guests live. refl; wait = λ guests live. refl }
row_next (Asked n) input front shared told size is sound e = let at = sound_at (Asked n) shared is sound in record { front' = front; front_is = sym (append-nil front); input_is = e; sound = record { holds = at.0; captures = asked_any shared.captured n (max n size) at.1 }; state = λ guests live. refl; read = λ guests live. refl; poll = λ guests live. refl; wait = λ guests live. refl }
row_next Held input front shared told size is sound e = let at = sound_at Held shared is sound in record {
  front' = front ++ take size shared.held;
  front_is = refl;
  input_is = input_after input front shared.held told.left size e;
  sound = holding_sound (drop size shared.held) shared.captured shared.deliveries at.1;
  state = λ guests live i. record (shown front shared guests live told) { handed = handed_more front shared.held size i; given = given_same front shared.held size i; mode = mode_after front shared.held size i };
  read = λ guests live. ap tell.Bytes (bytes_at input front shared.held told.left size e);
  poll = λ guests live. ap tell.Bytes (bytes_at input front shared.held told.left size e);
  wait = λ guests live. refl;
}
row_next (Failed kind) input front shared told size is sound e = let at = sound_at (Failed kind) shared is sound in record { front' = front; front_is = sym (append-nil front); input_is = e; sound = record { holds = at.0; captures = at.1 }; state = λ guests live. refl; read = λ guests live. fault_read kind; poll = λ guests live. refl; wait = λ guests live. refl }
row_next Closed input front shared told size is sound e = let at = sound_at Closed shared is sound in record { front' = front; front_is = sym (append-nil front); input_is = e; sound = record { holds = at.0; captures = at.1 }; state = λ guests live i. record (shown front shared guests live told) { mode = sym is i }; read = λ guests live. refl; poll = λ guests live. refl; wait = λ guests live. refl }
