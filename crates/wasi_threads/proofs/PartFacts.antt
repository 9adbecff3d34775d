-- Passes that hold as many entries as the history hold all of them.
use Rattle.std.proofs.Common.{◌≡◌, ℕ, ◌+◌, ◌<◌, ◌≤◌, Bool, true, false, ◌||◌, ◌&&◌, not, cond, nat_eq, List, [], ◌∷◌, length, refl, arith, ◌∙◌, sym, ap}
use Rattle.std.proofs.lemmas.Bool.Decides.{nat_tests}
use Rattle.std.proofs.lemmas.Grind.{common_steps}
use Rattle.std.proofs.Common.{zero, suc, take, drop, ◌++◌, get_or, min, length-append, Option, Some, None, inl, inr}
use Rattle.std.specs.Prelude.{slice_get, IfSome}
use Rattle.wasi_threads.specs.declared.entry.Entry.{Entry}
use Rattle.wasi_threads.specs.History.{Standing, AreLegal, opening, after_entry}
use Rattle.wasi_threads.specs.Collects.{Begins, AreBeginnings, IsWhole, Differs, FirstDiffers, pass_of, entries_of, ComparedWithin, IsWithin, KeepsAt, IsRefusal, RefusedIs}
use Rattle.wasi_threads.specs.declared.collect.CollectError.{CollectError}
use Rattle.wasi_threads.specs.declared.collect.CollectError.TheVariants as refused
use Rattle.wasi_threads.specs.declared.collect.Compared.TheVariants as compared
use Rattle.wasi_threads.specs.Passes.{Passing, part_of, is_among, numbers_of, held_by, part_after, AreParts, AllAmong, tick, has_entry, holders}

-- the entries whose pass is among these and not among those
abbrev new_in : List ℕ → List ℕ → ℕ → Bool
new_in numbers seen n = is_among n numbers && not (is_among n seen)

abbrev counted : List ℕ → List ℕ → List Entry → ℕ
counted numbers seen [] = 0
counted numbers seen (e ∷ es) = tick (new_in numbers seen e.pass) + counted numbers seen es

one_tick : (b x s : Bool) → (b ≡ true → s ≡ false) → tick b + tick (x && not (b || s)) ≡ tick ((b || x) && not s)
one_tick true true true h = absurd (let e : true ≡ false = h refl in cc)
one_tick true false true h = absurd (let e : true ≡ false = h refl in cc)
one_tick true true false h = refl
one_tick true false false h = refl
one_tick false true true h = refl
one_tick false true false h = refl
one_tick false false true h = refl
one_tick false false false h = refl

none_tick : (b x s : Bool) → (b ≡ true → s ≡ true) → tick (x && not (b || s)) ≡ tick ((b || x) && not s)
none_tick true true true h = refl
none_tick true false true h = refl
none_tick true true false h = absurd (let e : false ≡ true = h refl in cc)
none_tick true false false h = absurd (let e : false ≡ true = h refl in cc)
none_tick false x s h = refl

same_among : (m n : ℕ) (ms : List ℕ) (b : Bool) → is_among n ms ≡ b → nat_eq m n ≡ true → is_among m ms ≡ b
same_among m n ms b h e = let same : m ≡ n = grind (arith, nat_tests) in rw same h

length_cond : (b : Bool) (e : Entry) (es : List Entry) → length (cond b (e ∷ es) es) ≡ tick b + length es
length_cond true e es = omega arith
length_cond false e es = omega arith

count_one : (n : ℕ) (numbers seen : List ℕ) (es : List Entry) → is_among n seen ≡ false → length (part_of n es) + counted numbers (n ∷ seen) es ≡ counted (n ∷ numbers) seen es
count_one n numbers seen [] h = omega arith
count_one n numbers seen (e ∷ es) h =
    omega (arith, count_one n numbers seen es h, length_cond (nat_eq e.pass n) e (part_of n es), one_tick (nat_eq e.pass n) (is_among e.pass numbers) (is_among e.pass seen) (same_among e.pass n seen false h))

count_none : (n : ℕ) (numbers seen : List ℕ) (es : List Entry) → is_among n seen ≡ true → counted numbers (n ∷ seen) es ≡ counted (n ∷ numbers) seen es
count_none n numbers seen [] h = refl
count_none n numbers seen (e ∷ es) h =
    omega (arith, count_none n numbers seen es h, none_tick (nat_eq e.pass n) (is_among e.pass numbers) (is_among e.pass seen) (same_among e.pass n seen true h))

counted_none : (seen : List ℕ) (es : List Entry) → counted [] seen es ≡ 0
counted_none seen [] = refl
counted_none seen (e ∷ es) = omega (arith, counted_none seen es)

held_part : (b : Bool) (n : ℕ) (numbers seen : List ℕ) (es : List Entry) → is_among n seen ≡ b → length (cond b [] (part_of n es)) + counted numbers (n ∷ seen) es ≡ counted (n ∷ numbers) seen es
held_part true n numbers seen es h = omega (arith, count_none n numbers seen es h)
held_part false n numbers seen es h = count_one n numbers seen es h

-- passes that hold their parts hold as many entries as have one of their numbers
pub held_counted : (seen : List ℕ) (ps : List Passing) (es : List Entry) → AreParts seen ps es → held_by ps ≡ counted (numbers_of ps) seen es
held_counted seen [] es h = sym (counted_none seen es)
held_counted seen (p ∷ ps) es h =
    omega (arith, ap length h.0, held_part (is_among p.number seen) p.number (numbers_of ps) seen es refl, held_counted (p.number ∷ seen) ps es h.1)

tick_most : (b : Bool) → tick b ≤ 1
tick_most true = omega arith
tick_most false = omega arith

pub counted_most : (numbers : List ℕ) (es : List Entry) → counted numbers [] es ≤ length es
counted_most numbers [] = omega arith
counted_most numbers (e ∷ es) = omega (arith, counted_most numbers es, tick_most (new_in numbers [] e.pass))

tick_one : (b : Bool) → 1 ≤ tick (b && true) → b ≡ true
tick_one true h = refl
tick_one false h = absurd (omega arith)

-- where all are counted, each has one of these numbers
pub all_counted : (numbers : List ℕ) (es : List Entry) → counted numbers [] es ≡ length es → AllAmong es numbers
all_counted numbers [] h = tt
all_counted numbers (e ∷ es) h = (
  tick_one (is_among e.pass numbers) (omega (arith, counted_most numbers es)),
  all_counted numbers es (omega (arith, counted_most numbers es, tick_most (new_in numbers [] e.pass))),
)

-- as many entries as the history: then each entry's pass was handed in
pub all_held : (ps : List Passing) (es : List Entry) → AreParts [] ps es → held_by ps ≡ length es → AllAmong es (numbers_of ps)
all_held ps es parts all = all_counted (numbers_of ps) es (sym (held_counted [] ps es parts) ∙ all)

pub take_all : (n : ℕ) (xs : List Entry) → length xs ≤ n → take n xs ≡ xs
take_all n xs h = grind (arith, common_steps)

and_none : (b : Bool) → (b && false) || false ≡ false
and_none true = refl
and_none false = refl

and_here : (b : Bool) → (b && true) || false ≡ b
and_here true = refl
and_here false = refl

and_rest : (b x : Bool) → (b && false) || x ≡ x
and_rest true x = refl
and_rest false x = refl

-- beginnings of parts, as many entries as the parts: they are the parts
part_counted : (seen : List ℕ) (n : ℕ) (numbers : List ℕ) (es : List Entry) → length (part_after seen n es) + counted numbers (n ∷ seen) es ≡ counted (n ∷ numbers) seen es
part_counted seen n numbers es = held_part (is_among n seen) n numbers seen es refl

begin_short : (xs part : List Entry) → Begins xs part → length xs ≤ length part
begin_short xs part h = let e : length xs ≡ length (take (length xs) part) = ap length h in grind (arith, common_steps)

begin_whole : (xs part : List Entry) → Begins xs part → length part ≤ length xs → xs ≡ part
begin_whole xs part h l = h ∙ take_all (length xs) part l

pub begin_counted : (seen : List ℕ) (ps : List Passing) (es : List Entry) → AreBeginnings seen ps es → held_by ps ≤ counted (numbers_of ps) seen es
begin_counted seen [] es h = omega arith
begin_counted seen (p ∷ ps) es h = omega (arith, begin_short p.entries (part_after seen p.number es) h.0, part_counted seen p.number (numbers_of ps) es, begin_counted (p.number ∷ seen) ps es h.1)

pub begin_parts : (seen : List ℕ) (ps : List Passing) (es : List Entry) → AreBeginnings seen ps es → counted (numbers_of ps) seen es ≤ held_by ps → AreParts seen ps es
begin_parts seen [] es h l = tt
begin_parts seen (p ∷ ps) es h l =
    let short = begin_short p.entries (part_after seen p.number es) h.0 in
    let rest = begin_counted (p.number ∷ seen) ps es h.1 in
    let sum = part_counted seen p.number (numbers_of ps) es in
    (begin_whole p.entries (part_after seen p.number es) h.0 (omega (arith, short, rest, sum)), begin_parts (p.number ∷ seen) ps es h.1 (omega (arith, short, rest, sum)))

-- the numbers of a legal history are the places
abbrev AreNumbered : ℕ → List Entry → Type 0
AreNumbered n [] = Unit {0}
AreNumbered n (e ∷ es) = (e.number ≡ n) × AreNumbered (n + 1) es

pub legal_numbered : (n : ℕ) (s : Standing) (es : List Entry) → AreLegal n s es → AreNumbered n es
legal_numbered n s [] h = tt
legal_numbered n s (e ∷ es) h = (ap (λ (e : Entry). e.number) h.0.is, legal_numbered (n + 1) (after_entry e s) es h.1)

not_equal : (k n : ℕ) → k < n → nat_eq n k ≡ false
not_equal k n h = grind (arith, nat_tests)

has_cond : (k : ℕ) (b : Bool) (e : Entry) (es : List Entry) → has_entry k (cond b (e ∷ es) es) ≡ (b && nat_eq e.number k) || has_entry k es
has_cond k true e es = refl
has_cond k false e es = refl

none_before : (k m n : ℕ) (es : List Entry) → AreNumbered n es → k < n → has_entry k (part_of m es) ≡ false
none_before k m n [] h l = refl
none_before k m n (e ∷ es) h l =
    let here : nat_eq e.number k ≡ false = rw h.0 (not_equal k n l) in
    let rest : has_entry k (part_of m es) ≡ false = none_before k m (n + 1) es h.1 (omega arith) in
    has_cond k (nat_eq e.pass m) e (part_of m es) ∙ rw (here, rest) (and_none (nat_eq e.pass m))

-- the pass of the entry at a place
abbrev pass_at : ℕ → List Entry → ℕ
pass_at j [] = 0
pass_at zero (e ∷ es) = e.pass
pass_at (suc j) (e ∷ es) = pass_at j es

-- the entry of a number stands in the part of its pass alone
has_part : (j m n : ℕ) (es : List Entry) → AreNumbered n es → j < length es → has_entry (n + j) (part_of m es) ≡ nat_eq (pass_at j es) m
has_part j m n [] h l = absurd (omega arith)
has_part zero m n (e ∷ es) h l =
    let k : n + 0 ≡ n = omega arith in
    let here : nat_eq e.number n ≡ true = rw h.0 (grind (arith, nat_tests)) in
    let rest : has_entry n (part_of m es) ≡ false = none_before n m (n + 1) es h.1 (omega arith) in
    rw k (has_cond n (nat_eq e.pass m) e (part_of m es) ∙ rw (here, rest) (and_here (nat_eq e.pass m)))
has_part (suc j) m n (e ∷ es) h l =
    let k : n + suc j ≡ n + 1 + j = omega arith in
    let here : nat_eq e.number (n + 1 + j) ≡ false = rw h.0 (grind (arith, nat_tests)) in
    let rest : has_entry (n + 1 + j) (part_of m es) ≡ nat_eq (pass_at j es) m = has_part j m (n + 1) es h.1 (omega arith) in
    rw k (has_cond (n + 1 + j) (nat_eq e.pass m) e (part_of m es) ∙ rw (here, rest) (and_rest (nat_eq e.pass m) (nat_eq (pass_at j es) m)))

has_after : (b : Bool) (k : ℕ) (part : List Entry) → has_entry k (cond b [] part) ≡ not b && has_entry k part
has_after true k part = refl
has_after false k part = refl

-- in how many passes an entry stands: in one where its pass is new among them
held_tick : (b x s s' : Bool) → (b ≡ true → s' ≡ s) → tick (not s && b) + tick (x && not (b || s')) ≡ tick ((b || x) && not s')
held_tick true true true true h = refl
held_tick true true false false h = refl
held_tick true false true true h = refl
held_tick true false false false h = refl
held_tick true x true false h = absurd (let e : false ≡ true = h refl in cc)
held_tick true x false true h = absurd (let e : true ≡ false = h refl in cc)
held_tick false true true true h = refl
held_tick false true true false h = refl
held_tick false true false true h = refl
held_tick false true false false h = refl
held_tick false false true true h = refl
held_tick false false true false h = refl
held_tick false false false true h = refl
held_tick false false false false h = refl

pub holders_are : (seen : List ℕ) (ps : List Passing) (es : List Entry) (j : ℕ) → AreParts seen ps es → AreNumbered 0 es → j < length es → holders j ps ≡ tick (new_in (numbers_of ps) seen (pass_at j es))
holders_are seen [] es j h n l = refl
holders_are seen (p ∷ ps) es j h n l =
    let k : 0 + j ≡ j = omega arith in
    let part : has_entry j (part_of p.number es) ≡ nat_eq (pass_at j es) p.number = rw k at (has_part j p.number 0 es n l) in
    let here : has_entry j p.entries ≡ not (is_among p.number seen) && nat_eq (pass_at j es) p.number = ap (has_entry j) h.0 ∙ (has_after (is_among p.number seen) j (part_of p.number es) ∙ ap (λ b. not (is_among p.number seen) && b) part) in
    omega (arith, ap tick here, holders_are (p.number ∷ seen) ps es j h.1 n l, held_tick (nat_eq (pass_at j es) p.number) (is_among (pass_at j es) (numbers_of ps)) (is_among p.number seen) (is_among (pass_at j es) seen) (same_among (pass_at j es) p.number seen (is_among p.number seen) refl))

among_at : (numbers : List ℕ) (es : List Entry) (j : ℕ) → AllAmong es numbers → j < length es → is_among (pass_at j es) numbers ≡ true
among_at numbers [] j h l = absurd (omega arith)
among_at numbers (e ∷ es) zero h l = h.0
among_at numbers (e ∷ es) (suc j) h l = among_at numbers es j h.1 (omega arith)

-- passes that begin their parts and hold as many entries as a legal history: each entry is in just one of them
pub whole : (ps : List Passing) (es : List Entry) → AreLegal 0 opening es → AreBeginnings [] ps es → held_by ps ≡ length es → IsWhole ps es
whole ps es legal begins all =
    let most = counted_most (numbers_of ps) es in
    let parts : AreParts [] ps es = begin_parts [] ps es begins (omega (arith, most)) in
    let among : AllAmong es (numbers_of ps) = all_held ps es parts all in
    record { legal = legal; parts = parts; one = λ k l. holders_are [] ps es k parts (legal_numbered 0 opening es legal) l ∙ rw (among_at (numbers_of ps) es k among l) refl }

cond_append : (b : Bool) (x : Entry) (xs ys : List Entry) → cond b (x ∷ (xs ++ ys)) (xs ++ ys) ≡ cond b (x ∷ xs) xs ++ ys
cond_append true x xs ys = refl
cond_append false x xs ys = refl

-- the part of a pass, entry by entry
pub part_append : (n : ℕ) (xs ys : List Entry) → part_of n (xs ++ ys) ≡ part_of n xs ++ part_of n ys
part_append n [] ys = refl
part_append n (x ∷ xs) ys = ap (λ zs. cond (nat_eq x.pass n) (x ∷ zs) zs) (part_append n xs ys) ∙ cond_append (nat_eq x.pass n) x (part_of n xs) (part_of n ys)

pub part_mine : (n : ℕ) (e : Entry) → nat_eq e.pass n ≡ true → part_of n (e ∷ []) ≡ e ∷ []
part_mine n e h = rw h refl

pub part_other : (n : ℕ) (e : Entry) → nat_eq e.pass n ≡ false → part_of n (e ∷ []) ≡ []
part_other n e h = rw h refl

pub part_step : (n i : ℕ) (h : List Entry) (e : Entry) → i < length h → get_or h i e ≡ e → part_of n (take (i + 1) h) ≡ part_of n (take i h) ++ part_of n (e ∷ [])
part_step n i h e l is =
    let t : take (i + 1) h ≡ take i h ++ e ∷ [] = grind (arith, common_steps) in
    ap (part_of n) t ∙ part_append n (take i h) (e ∷ [])

pub walk_same : (es p : List Entry) (at : ℕ) (e : Entry) → take at es ≡ take at p → at ≡ min (length es) (length p) → at < length es → get_or es at e ≡ e → (take (at + 1) es ≡ take (at + 1) (p ++ e ∷ [])) × (at + 1 ≡ min (length es) (length (p ++ e ∷ [])))
walk_same es p at e same is l here =
    let end : at ≡ length p = omega arith in
    let t : take (at + 1) es ≡ take at es ++ e ∷ [] = grind (arith, common_steps) in
    let whole : take at p ≡ p = take_all at p (omega arith) in
    let long : length (p ++ e ∷ []) ≡ length p + 1 = omega (arith, length-append p (e ∷ [])) in
    (t ∙ (ap (λ xs. xs ++ e ∷ []) (same ∙ whole) ∙ sym (take_all (at + 1) (p ++ e ∷ []) (omega arith))), omega arith)

pub walk_over : (es p ys : List Entry) (at : ℕ) → take at es ≡ take at p → at ≡ min (length es) (length p) → length es ≤ at → (take at es ≡ take at (p ++ ys)) × (at ≡ min (length es) (length (p ++ ys)))
walk_over es p ys at same is l =
    let long : length (p ++ ys) ≡ length p + length ys = omega (arith, length-append p ys) in
    (same ∙ grind (arith, common_steps), omega arith)

pub walk_none : (es p : List Entry) (at : ℕ) → take at es ≡ take at p → at ≡ min (length es) (length p) → (take at es ≡ take at (p ++ [])) × (at ≡ min (length es) (length (p ++ [])))
walk_none es p at same is = let e : p ++ [] ≡ p = grind (arith, common_steps) in rw e (same, is)

take_front : (n : ℕ) (p ys : List Entry) → n ≤ length p → take n p ≡ take n (p ++ ys)
take_front n p ys h = grind (arith, common_steps)

get_end : (p : List Entry) (e : Entry) (ys : List Entry) → slice_get (p ++ e ∷ ys) (length p) ≡ Some e
get_end [] e ys = refl
get_end (x ∷ p) e ys = get_end p e ys

get_past : (p : List Entry) → slice_get p (length p) ≡ None
get_past [] = refl
get_past (x ∷ p) = get_past p

part_head : (n : ℕ) (e : Entry) (ys : List Entry) → nat_eq e.pass n ≡ true → part_of n (e ∷ ys) ≡ e ∷ part_of n ys
part_head n e ys h = rw h refl

-- an entry that is not the one at its place
pub walk_differs : (es p ys : List Entry) (at : ℕ) (e kept : Entry) → take at es ≡ take at p → at ≡ min (length es) (length p) → at < length es → (e ≡ kept → ⊥) → slice_get es at ≡ Some kept → Differs (p ++ e ∷ ys) es at kept (Some e)
walk_differs es p ys at e kept same is l ne here =
    let end : at ≡ length p = omega arith in
    record {
      before = same ∙ take_front at p (e ∷ ys) (omega arith);
      here = here;
      there = rw end (get_end p e ys);
      differs = λ h. ne (let x : Some e ≡ Some kept = h in cc);
    }

pub walk_ends : (es p : List Entry) (at : ℕ) (kept : Entry) → take at es ≡ take at p → at ≡ min (length es) (length p) → at < length es → slice_get es at ≡ Some kept → Differs p es at kept None
walk_ends es p at kept same is l here =
    let end : at ≡ length p = omega arith in
    record { before = same; here = here; there = rw end (get_past p); differs = λ h. let x : None ≡ Some kept = h in absurd (cc) }

pub walk_whole : (es p : List Entry) (at : ℕ) → take at es ≡ take at p → at ≡ min (length es) (length p) → length es ≤ at → Begins es p
walk_whole es p at same is l = sym (take_all at es (omega arith)) ∙ (same ∙ ap (λ n. take n p) (let e : at ≡ length es = omega arith in e))

-- the part goes on with the entry at a place
pub part_goes : (n i : ℕ) (h : List Entry) (e : Entry) → i < length h → get_or h i e ≡ e → nat_eq e.pass n ≡ true → part_of n h ≡ part_of n (take i h) ++ e ∷ part_of n (drop (i + 1) h)
part_goes n i h e l is mine =
    let t : h ≡ take i h ++ e ∷ drop (i + 1) h = grind (arith, common_steps) in
    ap (part_of n) t ∙ (part_append n (take i h) (e ∷ drop (i + 1) h) ∙ ap (λ xs. part_of n (take i h) ++ xs) (part_head n e (drop (i + 1) h) mine))

pub place_get : (h : List Entry) (i : ℕ) (e : Entry) → i < length h → get_or h i e ≡ e → slice_get h i ≡ Some e
place_get [] i e l is = absurd (omega arith)
place_get (x ∷ h) zero e l is = ap Some is
place_get (x ∷ h) (suc i) e l is = place_get h i e (omega arith) is

pub entry_same : (a b : Entry) → a.number ≡ b.number → a.pass ≡ b.pass → a.event ≡ b.event → a.answer ≡ b.answer → a.bytes ≡ b.bytes → a.wait ≡ b.wait → a ≡ b
entry_same a b n p e k y w =
    ap {B = Entry} (λ x. record { number = x; pass = a.pass; event = a.event; answer = a.answer; bytes = a.bytes; wait = a.wait }) n
    ∙ (ap {B = Entry} (λ x. record { number = b.number; pass = x; event = a.event; answer = a.answer; bytes = a.bytes; wait = a.wait }) p
    ∙ (ap {B = Entry} (λ x. record { number = b.number; pass = b.pass; event = x; answer = a.answer; bytes = a.bytes; wait = a.wait }) e
    ∙ (ap {B = Entry} (λ x. record { number = b.number; pass = b.pass; event = b.event; answer = x; bytes = a.bytes; wait = a.wait }) k
    ∙ (ap {B = Entry} (λ x. record { number = b.number; pass = b.pass; event = b.event; answer = b.answer; bytes = x; wait = a.wait }) y
    ∙ ap {B = Entry} (λ x. record { number = b.number; pass = b.pass; event = b.event; answer = b.answer; bytes = b.bytes; wait = x }) w))))

or_swap : (a b s : Bool) → (a || b) || s ≡ b || (a || s)
or_swap true true s = refl
or_swap true false s = refl
or_swap false b s = refl

or_none : (b : Bool) → b || false ≡ b
or_none true = refl
or_none false = refl

some_same : (a b : Passing) → Some a ≡ Some b → a ≡ b
some_same a b h = cc

-- one more pass that begins its part
begins_next : (seen : List ℕ) (ps : List Passing) (i : ℕ) (p : Passing) (h : List Entry) → AreBeginnings seen (take i ps) h → slice_get ps i ≡ Some p → Begins p.entries (cond (is_among p.number (numbers_of (take i ps)) || is_among p.number seen) [] (part_of p.number h)) → AreBeginnings seen (take (suc i) ps) h
begins_next seen [] i p h b g k = absurd (let e : None ≡ Some p = g in cc)
begins_next seen (q ∷ ps) zero p h b g k = let e : q ≡ p = some_same q p g in (rw e k, tt)
begins_next seen (q ∷ ps) (suc i) p h b g k =
    (b.0, begins_next (q.number ∷ seen) ps i p h b.1 g (rw (sym (or_swap (nat_eq p.number q.number) (is_among p.number (numbers_of (take i ps))) (is_among p.number seen))) k))

pub begins_more : (ps : List Passing) (i : ℕ) (p : Passing) (h : List Entry) → AreBeginnings [] (take i ps) h → slice_get ps i ≡ Some p → Begins p.entries (cond (is_among p.number (numbers_of (take i ps))) [] (part_of p.number h)) → AreBeginnings [] (take (i + 1) ps) h
begins_more ps i p h b g k =
    let e : i + 1 ≡ suc i = omega arith in
    rw e (begins_next [] ps i p h b g (rw (or_none (is_among p.number (numbers_of (take i ps)))) k))

differs_next : (seen : List ℕ) (ps : List Passing) (i : ℕ) (p : Passing) (h : List Entry) (at : ℕ) (kept : Entry) (found : Option Entry) → AreBeginnings seen (take i ps) h → slice_get ps i ≡ Some p → Differs (cond (is_among p.number (numbers_of (take i ps)) || is_among p.number seen) [] (part_of p.number h)) p.entries at kept found → FirstDiffers seen ps h p.number at kept found
differs_next seen [] i p h at kept found b g k = absurd (let e : None ≡ Some p = g in cc)
differs_next seen (q ∷ ps) zero p h at kept found b g k = let e : q ≡ p = some_same q p g in inl (ap (λ (p : Passing). p.number) e, rw e k)
differs_next seen (q ∷ ps) (suc i) p h at kept found b g k =
    inr (b.0, differs_next (q.number ∷ seen) ps i p h at kept found b.1 g (rw (sym (or_swap (nat_eq p.number q.number) (is_among p.number (numbers_of (take i ps))) (is_among p.number seen))) k))

pub differs_first : (ps : List Passing) (i : ℕ) (p : Passing) (h : List Entry) (at : ℕ) (kept : Entry) (found : Option Entry) → AreBeginnings [] (take i ps) h → slice_get ps i ≡ Some p → Differs (cond (is_among p.number (numbers_of (take i ps))) [] (part_of p.number h)) p.entries at kept found → FirstDiffers [] ps h p.number at kept found
differs_first ps i p h at kept found b g k = differs_next [] ps i p h at kept found b g (rw (or_none (is_among p.number (numbers_of (take i ps)))) k)

pub pass_is : (ps : List Passing) (i : ℕ) (p : Passing) → slice_get ps i ≡ Some p → (pass_of ps i ≡ p.number) × (entries_of ps i ≡ p.entries)
pass_is [] i p g = absurd (let e : None ≡ Some p = g in cc)
pass_is (q ∷ ps) zero p g = let e : q ≡ p = some_same q p g in (ap (λ (p : Passing). p.number) e, ap (λ (p : Passing). p.entries) e)
pass_is (q ∷ ps) (suc i) p g = pass_is ps i p g

pub pass_get : (ps : List Passing) (i : ℕ) (p : Passing) → i < length ps → get_or ps i p ≡ p → slice_get ps i ≡ Some p
pass_get [] i p l is = absurd (omega arith)
pass_get (x ∷ h) zero p l is = ap Some is
pass_get (x ∷ h) (suc i) p l is = pass_get h i p (omega arith) is

or_last : (b : Bool) → b || true ≡ true
or_last true = refl
or_last false = refl

or_assoc : (a b c : Bool) → a || (b || c) ≡ (a || b) || c
or_assoc true b c = refl
or_assoc false b c = refl

-- the numbers of the passes before
numbers_snoc : (ps : List Passing) (p : Passing) (n : ℕ) → is_among n (numbers_of (ps ++ p ∷ [])) ≡ is_among n (numbers_of ps) || nat_eq n p.number
numbers_snoc [] p n = or_none (nat_eq n p.number)
numbers_snoc (q ∷ ps) p n = ap (λ b. nat_eq n q.number || b) (numbers_snoc ps p n) ∙ or_assoc (nat_eq n q.number) (is_among n (numbers_of ps)) (nat_eq n p.number)

pub among_step : (ps : List Passing) (i : ℕ) (p : Passing) (n : ℕ) → i < length ps → get_or ps i p ≡ p → is_among n (numbers_of (take (i + 1) ps)) ≡ is_among n (numbers_of (take i ps)) || nat_eq n p.number
among_step ps i p n l is =
    let t : take (i + 1) ps ≡ take i ps ++ p ∷ [] = grind (arith, common_steps) in
    ap (λ xs. is_among n (numbers_of xs)) t ∙ numbers_snoc (take i ps) p n

pub among_found : (ps : List Passing) (i k : ℕ) (p : Passing) (n : ℕ) → slice_get ps i ≡ Some p → p.number ≡ n → i < k → is_among n (numbers_of (take k ps)) ≡ true
among_found [] i k p n g e l = absurd (let f : None ≡ Some p = g in cc)
among_found (q ∷ ps) i zero p n g e l = absurd (omega arith)
among_found (q ∷ ps) zero (suc k) p n g e l = let f : q ≡ p = some_same q p g in let t : nat_eq n q.number ≡ true = rw f (rw e (grind (arith, nat_tests))) in rw t refl
among_found (q ∷ ps) (suc i) (suc k) p n g e l = rw (among_found ps i k p n g e (omega arith)) (or_last (nat_eq n q.number))

pub held_short : (ps : List Passing) (es : List Entry) → AreBeginnings [] ps es → held_by ps ≤ length es
held_short ps es h = omega (arith, begin_counted [] ps es h, counted_most (numbers_of ps) es)

pub within_of : (i at : ℕ) (place : Option ℕ) (h : List Entry) (ps : List Passing) (es : List Entry) → i < length ps → es ≡ entries_of ps i → ComparedWithin (compared.Differs at place) h es → IsWithin i at place h ps
within_of i at None h ps es l e w = (l, rw (← e) w)
within_of i at (Some place) h ps es l e w = (l, rw (← e) w.0, w.1)

pub within_parts : (i at : ℕ) (place : Option ℕ) (h : List Entry) (ps : List Passing) → IsWithin i at place h ps → (i < length ps) × (at < length (entries_of ps i)) × IfSome place (λ p. p < length h)
within_parts i at None h ps w = (w.0, w.1, tt)
within_parts i at (Some place) h ps w = w

-- what a refusal says of the passes alone
keeps_of : (seen : List ℕ) (ps : List Passing) (h : List Entry) (pass at : ℕ) (kept : Entry) (found : Option Entry) → FirstDiffers seen ps h pass at kept found → KeepsAt ps pass at kept × (found ≡ Some kept → ⊥)
keeps_of seen [] h pass at kept found d = absurd d
keeps_of seen (p ∷ ps) h pass at kept found (inl d) = (inl (d.0, d.1.here), d.1.differs)
keeps_of seen (p ∷ ps) h pass at kept found (inr d) =
    let rest = keeps_of (p.number ∷ seen) ps h pass at kept found d.1 in
    (inr rest.0, rest.1)

pub refusal_of : (e : CollectError) (ps : List Passing) (h : List Entry) → RefusedIs e ps h → IsRefusal e ps
refusal_of (refused.Mismatch pass at kept found) ps h r = keeps_of [] ps h pass at kept found r
refusal_of (refused.Open shares total) ps h r = (r.1, r.3)
refusal_of refused.OutOfMemory ps h r = tt
