-- The name of a device, without white space at its end and in upper case.
use Rattle.std.proofs.Common.{◌≡◌, ℕ, zero, suc, ◌+◌, ◌<◌, Bool, true, false, ◌&&◌, ◌||◌, List, [], ◌∷◌, ◌++◌, length, get_or, take, map, sym, ◌∙◌, ap, refl, inl, inr, arith, codes, eqb, length-take, IsTrue, ◌↔◌}
use Rattle.std.proofs.lemmas.Bool.{cases_Bool, cond-true, cond-false, le-ltb, and_from, and_left, and_right, eq-eqb, ne_eqb, agree_below_at, cases_lt}
use Rattle.std.proofs.lemmas.List.{map-append, get_or-map}
use Rattle.std.proofs.lemmas.List.Folds.{list_any-append}
use Rattle.std.proofs.lemmas.Slice.Eq.{bytes_eq-Decides}
use Rattle.std.specs.List.{AllWithin, list_any}
use Rattle.std.specs.Char.{is_whitespace, to_ascii_uppercase}
use Rattle.std.specs.Str.{bytes_eq, drop_trailing_whitespace, str_to_ascii_uppercase}
use Rattle.wasi_winrules.specs.Devices.{port_numbers, port_devices, numbered}

-- ---- white space at the end
drop_all_white : (xs : List ℕ) → ((k : ℕ) → k < length xs → is_whitespace (get_or xs k 0) ≡ true) → drop_trailing_whitespace xs ≡ []
drop_all_white [] white = refl
drop_all_white (x ∷ xs) white =
    let rest : drop_trailing_whitespace xs ≡ [] = drop_all_white xs (λ k h. white (suc k) (omega arith)) in
    cond-true _ _ _ (and_from _ _ (white 0 (omega arith)) (eq-eqb _ _ (ap length rest)))

drop_white_after : (xs : List ℕ) (last : ℕ) → last < length xs → is_whitespace (get_or xs last 0) ≡ false → ((k : ℕ) → last < k → k < length xs → is_whitespace (get_or xs k 0) ≡ true) → drop_trailing_whitespace xs ≡ take (suc last) xs
drop_white_after [] last h dark white = absurd (omega arith)
drop_white_after (x ∷ xs) zero h dark white =
    let rest : drop_trailing_whitespace xs ≡ [] = drop_all_white xs (λ k l. white (suc k) (omega arith) (omega arith)) in
    cond-false _ _ _ (and_left _ _ dark) ∙ ap (λ l. x ∷ l) rest
drop_white_after (x ∷ xs) (suc last) h dark white =
    let rest : drop_trailing_whitespace xs ≡ take (suc last) xs = drop_white_after xs last (omega arith) dark (λ k above l. white (suc k) (omega arith) (omega arith)) in
    let some : length (drop_trailing_whitespace xs) ≡ 0 → ⊥ = λ none. absurd (omega (arith, ap length rest, length-take (suc last) xs)) in
    cond-false _ _ _ (and_right _ _ (ne_eqb _ _ some)) ∙ ap (λ l. x ∷ l) rest

pub trimmed_after : (xs : List ℕ) (last : ℕ) → last < length xs → is_whitespace (get_or xs last 0) ≡ false → AllWithin (λ unit. is_whitespace unit ≡ true) xs (last + 1) (length xs) → take (last + 1) xs ≡ drop_trailing_whitespace xs
trimmed_after xs last h dark white =
    let next : last + 1 ≡ suc last = omega arith in
    ap (λ n. take n xs) next ∙ sym (drop_white_after xs last h dark (λ k above l. white k 0 (omega arith) l))

pub trimmed_all : (xs : List ℕ) → AllWithin (λ unit. is_whitespace unit ≡ true) xs 0 (length xs) → [] ≡ drop_trailing_whitespace xs
trimmed_all xs white = sym (drop_all_white xs (λ k l. white k 0 (omega arith) l))

-- ---- words
same_units : (units word : List ℕ) → length units ≡ length word → ((k : ℕ) → k < length units → k < length word → to_ascii_uppercase (get_or units k 0) ≡ get_or word k 0) → str_to_ascii_uppercase units ≡ word
same_units [] [] len each = refl
same_units [] (y ∷ ys) len each = absurd (omega arith)
same_units (x ∷ xs) [] len each = absurd (omega arith)
same_units (x ∷ xs) (y ∷ ys) len each =
    let first : to_ascii_uppercase x ≡ y = each 0 (omega arith) (omega arith) in
    let rest : str_to_ascii_uppercase xs ≡ ys = same_units xs ys (omega arith) (λ k h l. each (suc k) (omega arith) (omega arith)) in
    ap (λ u. u ∷ str_to_ascii_uppercase xs) first ∙ ap (λ l. y ∷ l) rest

units_of_same : (units word : List ℕ) → str_to_ascii_uppercase units ≡ word → (k : ℕ) → k < length units → to_ascii_uppercase (get_or units k 0) ≡ get_or word k 0
units_of_same units word same k h = sym (get_or-map to_ascii_uppercase units k 0 0 h) ∙ ap (λ l. get_or l k 0) same

pub word_agrees : (units word : List ℕ) (r : Bool) → length units ≡ length word → (IsTrue r ↔ ((k : ℕ) → k < length units → k < length word → to_ascii_uppercase (get_or units k 0) ≡ get_or word k 0)) → r ≡ bytes_eq (str_to_ascii_uppercase units) word
word_agrees units word true len agrees = sym ((bytes_eq-Decides _ _).1 (same_units units word len (agrees.0 refl)))
word_agrees units word false len agrees =
    elim (cases_Bool (bytes_eq (str_to_ascii_uppercase units) word)) [
      | inl e ↦ agrees.1 (λ k h l. units_of_same units word ((bytes_eq-Decides _ _).0 e) k h) ∙ sym e
      | inr e ↦ sym e
    ]

-- ---- ports
abbrev pub is_port : List ℕ → Bool
is_port name = bytes_eq name (codes "COM") || bytes_eq name (codes "LPT")

lone_is_longer : (ys : List ℕ) (y : ℕ) → bytes_eq [] (ys ++ y ∷ []) ≡ false
lone_is_longer [] y = refl
lone_is_longer (b ∷ bs) y = refl

and_false : (b : Bool) → (b && false) ≡ false
and_false true = refl
and_false false = refl

and_true : (b : Bool) → (b && true) ≡ b
and_true true = refl
and_true false = refl

and_assoc : (a b c : Bool) → ((a && b) && c) ≡ (a && (b && c))
and_assoc true b c = refl
and_assoc false b c = refl

bytes_eq-push : (xs ys : List ℕ) (x y : ℕ) → bytes_eq (xs ++ x ∷ []) (ys ++ y ∷ []) ≡ (bytes_eq xs ys && eqb x y)
bytes_eq-push [] [] x y = and_true (eqb x y)
bytes_eq-push [] (b ∷ bs) x y = ap (λ t. eqb x b && t) (lone_is_longer bs y) ∙ and_false (eqb x b)
bytes_eq-push (a ∷ xs) [] x y = shorter xs
  where
    shorter : (xs : List ℕ) → (eqb a y && bytes_eq (xs ++ x ∷ []) []) ≡ false
    shorter [] = and_false (eqb a y)
    shorter (b ∷ bs) = and_false (eqb a y)
bytes_eq-push (a ∷ xs) (b ∷ ys) x y = ap (λ t. eqb a b && t) (bytes_eq-push xs ys x y) ∙ sym (and_assoc (eqb a b) (bytes_eq xs ys) (eqb x y))

both_or : (a b c : Bool) → ((a && b) || (a && c)) ≡ (a && (b || c))
both_or true b c = refl
both_or false b c = refl

list_any-numbered : (xs : List ℕ) (x : ℕ) (port numbers : List ℕ) → list_any (bytes_eq (xs ++ x ∷ [])) (map (λ number. port ++ (number ∷ [])) numbers) ≡ (bytes_eq xs port && list_any (λ number. eqb x number) numbers)
list_any-numbered xs x port [] = sym (and_false (bytes_eq xs port))
list_any-numbered xs x port (n ∷ numbers) =
    ap (λ t. t || list_any (bytes_eq (xs ++ x ∷ [])) (map (λ number. port ++ (number ∷ [])) numbers)) (bytes_eq-push xs port x n)
    ∙ ap (λ t. (bytes_eq xs port && eqb x n) || t) (list_any-numbered xs x port numbers)
    ∙ both_or (bytes_eq xs port) (eqb x n) (list_any (λ number. eqb x number) numbers)

either_and : (a b c : Bool) → ((a && c) || (b && c)) ≡ (c && (a || b))
either_and true b true = refl
either_and false true true = refl
either_and false false true = refl
either_and true true false = refl
either_and true false false = refl
either_and false true false = refl
either_and false false false = refl

-- a letter numbers no port, in either case
upper_number : (unit : ℕ) → list_any (λ number. eqb (to_ascii_uppercase unit) number) port_numbers ≡ list_any (λ number. eqb unit number) port_numbers
upper_number unit =
    elim (cases_lt unit 256) [
      | inl low ↦ agree_below_at (λ u. list_any (λ number. eqb (to_ascii_uppercase u) number) port_numbers) (λ u. list_any (λ number. eqb u number) port_numbers) 256 unit refl low
      | inr high ↦ (let same : to_ascii_uppercase unit ≡ unit = cond-false _ _ _ (le-ltb unit 97 (omega arith)) ∙ cond-false _ _ _ (le-ltb unit 123 (omega arith)) in
          ap (λ u. list_any (λ number. eqb u number) port_numbers) same)
    ]

port_device_is : (name port : List ℕ) (number : ℕ) → name ≡ port ++ number ∷ [] → list_any (bytes_eq (str_to_ascii_uppercase name)) port_devices ≡ (list_any (λ n. eqb number n) port_numbers && is_port (str_to_ascii_uppercase port))
port_device_is name port number e =
    let letters = str_to_ascii_uppercase port in
    let last = to_ascii_uppercase number in
    let units : str_to_ascii_uppercase name ≡ letters ++ (last ∷ []) = ap str_to_ascii_uppercase e ∙ map-append to_ascii_uppercase port (number ∷ []) in
    ap (λ l. list_any (bytes_eq l) port_devices) units
    ∙ list_any-append (bytes_eq (letters ++ (last ∷ []))) (numbered (codes "COM")) (numbered (codes "LPT"))
    ∙ ap (λ t. t || list_any (bytes_eq (letters ++ (last ∷ []))) (numbered (codes "LPT"))) (list_any-numbered letters last (codes "COM") port_numbers)
    ∙ ap (λ t. (bytes_eq letters (codes "COM") && list_any (λ n. eqb last n) port_numbers) || t) (list_any-numbered letters last (codes "LPT") port_numbers)
    ∙ either_and (bytes_eq letters (codes "COM")) (bytes_eq letters (codes "LPT")) (list_any (λ n. eqb last n) port_numbers)
    ∙ ap (λ t. t && is_port letters) (upper_number number)

pub no_port_device : (name : List ℕ) → length name ≡ 0 → false ≡ list_any (bytes_eq (str_to_ascii_uppercase name)) port_devices
no_port_device [] e = refl
no_port_device (x ∷ xs) e = absurd (omega arith)

pub port_device_numbered : (name port : List ℕ) (number : ℕ) (answer numbers : Bool) → name ≡ port ++ number ∷ [] → numbers ≡ true → numbers ≡ list_any (λ n. eqb number n) port_numbers → answer ≡ is_port (str_to_ascii_uppercase port) → answer ≡ list_any (bytes_eq (str_to_ascii_uppercase name)) port_devices
port_device_numbered name port number answer numbers e counts is_number is_letters =
    is_letters ∙ ap (λ t. t && is_port (str_to_ascii_uppercase port)) (sym counts ∙ is_number) ∙ sym (port_device_is name port number e)

pub port_device_unnumbered : (name port : List ℕ) (number : ℕ) (numbers : Bool) → name ≡ port ++ number ∷ [] → numbers ≡ false → numbers ≡ list_any (λ n. eqb number n) port_numbers → numbers ≡ list_any (bytes_eq (str_to_ascii_uppercase name)) port_devices
port_device_unnumbered name port number numbers e counts is_number =
    counts ∙ ap (λ t. t && is_port (str_to_ascii_uppercase port)) (sym counts ∙ is_number) ∙ sym (port_device_is name port number e)
