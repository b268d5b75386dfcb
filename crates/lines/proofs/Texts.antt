-- Laws of the text of a line, each in the form in which the code that reads it asks for it. Assumes nothing.
use Rattle.std.proofs.lemmas.Bool.{ltb-false}
use Rattle.std.proofs.lemmas.List.{drop_more}
use Rattle.std.proofs.Math.Bool.{and_assoc, and-true, and-false}
use Rattle.std.specs.Prelude.{cond, nat_lt, if◌then◌else◌, Option, Some, None, option_and_then, position}
use Rattle.std.specs.List.{position_or_len}
use Rattle.std.proofs.lemmas.List.Quantifiers.{position-Some}
use Prim.Native.Nat.{ℕ, zero, suc, ◌+◌, ◌*◌, ◌-◌, ◌/◌, ◌%◌, ◌≤◌, ◌<◌}
use mathlib.Core.Path.{◌≡◌, refl, sym, ap, ◌∙◌, subst}
use mathlib.Core.Bool.{Bool, true, false, not, ◌&&◌, ◌||◌}
use mathlib.Core.List.{List, [], ◌∷◌, ◌++◌}
use native.Mathlib.Omega.{arith}
use native.Mathlib.Numerals.{add-one}
use borrow.Author.Tests.{eq-eqb, ne_eqb, eqb-true}
use lib.ListN.{length, get_or, set, take, drop, drop_of_length-le, length-drop}
use lib.Seq.{sets, take_all}
use lib.Dec.{eqb}
use Rattle.lines.specs.Text.{more, with_digit, number, fields, onto, is_hex, hex_value, all_hex, bytes, code}
use Rattle.lines.specs.Record.{Record, malformed, only, kind, named, byte_sense, sense}
use Rattle.board.specs.Plain.{◌≤?◌}
use Rattle.board.proofs.Choose.{by_cases, both, at_most}
use Rattle.board.specs.declared.Event.TheVariants.{AbortDone}
use Rattle.lines.specs.declared.Kind.TheVariants.{Plain, Completed}
use Rattle.board.specs.declared.Sense.TheVariants as sensed

-- ---- digits

pub more_at : (s : List ℕ) (n i : ℕ) → i < length s → more n (drop i s) ≡ option_and_then (λ m. more m (drop (i + 1) s)) (with_digit n (get_or s i 0))
unfolding more
more_at s n i h = rw (drop_more s i 0 h)

pub more_end : (s : List ℕ) (n i : ℕ) → length s ≤ i → more n (drop i s) ≡ Some n
unfolding more
more_end s n i h = rw (drop_of_length-le s h)

-- ---- the first digit

pub number_none : (s : List ℕ) → length s < 1 → None ≡ number s
unfolding number
number_none [] h = refl
number_none (c ∷ s) h = absurd (omega arith)

pub number_lead : (s : List ℕ) → 2 ≤ length s → get_or s 0 0 ≡ 48 → None ≡ number s
unfolding number
number_lead [] l h = absurd (omega arith)
number_lead (c ∷ []) l h = absurd (omega arith)
number_lead (c ∷ d ∷ s) l h = rw (eq-eqb c 48 h)

pub number_digits : (s : List ℕ) → 1 ≤ length s → (2 ≤ length s → get_or s 0 0 ≡ 48 → ⊥) → more 0 s ≡ number s
unfolding number
number_digits [] l h = absurd (omega arith)
number_digits (c ∷ []) l h = refl
number_digits (c ∷ d ∷ s) l h = rw (ne_eqb c 48 (h (omega arith)))

pub ruleset numbers = (number_none, number_lead, number_digits)

-- ---- fields: those of the rest, with the bytes passed before the first

unfoldable pub ahead : List ℕ → List (List ℕ) → List (List ℕ)
ahead xs [] = xs ∷ []
ahead xs (f ∷ fs) = (xs ++ f) ∷ fs

onto_whole : (c : ℕ) (fs : List (List ℕ)) → onto c fs ≡ ahead [] (onto c fs)
unfolding onto ahead
onto_whole c [] = refl
onto_whole c (f ∷ fs) = refl

pick_whole : (b : Bool) (c : ℕ) (gs fs : List (List ℕ)) → (if b then [] ∷ gs else onto c fs) ≡ ahead [] (if b then [] ∷ gs else onto c fs)
unfolding ahead
pick_whole true c gs fs = refl
pick_whole false c gs fs = onto_whole c fs

pub fields_start : (s : List ℕ) → fields s ≡ ahead [] (fields s)
unfolding fields ahead
fields_start [] = refl
fields_start (c ∷ cs) = pick_whole (eqb c 9) c (fields cs) (fields cs)

fields_tab : (cs : List ℕ) → fields (9 ∷ cs) ≡ [] ∷ fields cs
unfolding fields
fields_tab cs = refl

pub fields_past : (c : ℕ) (cs : List ℕ) → eqb c 9 ≡ false → fields (c ∷ cs) ≡ onto c (fields cs)
unfolding fields
fields_past c cs h = rw h

pub fields_other : (c : ℕ) (cs : List ℕ) → (c ≡ 9 → ⊥) → fields (c ∷ cs) ≡ onto c (fields cs)
unfolding fields
fields_other c cs h = rw (ne_eqb c 9 h)

onto_first : (c : ℕ) (f : List ℕ) (fs : List (List ℕ)) → onto c (f ∷ fs) ≡ (c ∷ f) ∷ fs
unfolding onto
onto_first c f fs = refl

-- up to the first tab, and after it as the code has it
pub fields_split : (s : List ℕ) (i : ℕ) → position (λ c. eqb c 9) s ≡ Some i → fields s ≡ take i s ∷ fields (take (length s - (i + 1)) (drop (i + 1) s))
fields_split s i h =
    let p = position-Some (λ c. eqb c 9) s i 0 h in
    at_first s i p.0 p.1 p.2 ∙ ap (λ (l : List ℕ). take i s ∷ fields l) (sym (take_all _ (drop (i + 1) s) (rw length-drop (omega arith))))
  where
    at_first : (s : List ℕ) (i : ℕ) → i < length s → eqb (get_or s i 0) 9 ≡ true → ((k : ℕ) → k < i → eqb (get_or s k 0) 9 ≡ false)
        → fields s ≡ take i s ∷ fields (drop (i + 1) s)
    at_first [] i l h n = absurd (omega arith)
    at_first (c ∷ cs) zero l h n = ap (λ (x : ℕ). fields (x ∷ cs)) (eqb-true c 9 h) ∙ fields_tab cs
    at_first (c ∷ cs) (suc i) l h n = fields_past c cs (n 0 (omega arith))
        ∙ ap (onto c) (at_first cs i (omega arith) h (λ k m. n (suc k) (omega arith)))
        ∙ onto_first _ _ _ ∙ ap (λ (k : ℕ). (c ∷ take i cs) ∷ fields (drop k cs)) (add-one i)
        ∙ ap (λ (k : ℕ). (c ∷ take i cs) ∷ fields (drop k (c ∷ cs))) (sym (add-one (suc i)))

-- with no tab there is one field
pub fields_one : (s : List ℕ) → position (λ c. eqb c 9) s ≡ None → fields s ≡ s ∷ []
unfolding fields onto
fields_one s h = by_cases (nat_lt (position_or_len (λ c. eqb c 9) s) (length s))
    (λ e. absurd (let z : Some (position_or_len (λ c. eqb c 9) s) ≡ None = subst (λ b. cond b (Some (position_or_len (λ c. eqb c 9) s)) None ≡ None) e h in cc))
    (λ e. none_left s (ltb-false _ _ e))
  where
    first : List ℕ → ℕ
    first s = position_or_len (λ c. eqb c 9) s

    at_head : (b : Bool) (c : ℕ) (cs : List ℕ) → eqb c 9 ≡ b → (length cs ≤ first cs → fields cs ≡ cs ∷ []) → suc (length cs) ≤ cond (not b) (1 + first cs) 0
        → fields (c ∷ cs) ≡ (c ∷ cs) ∷ []
    at_head true c cs e k h = absurd (omega arith)
    at_head false c cs e k h = fields_past c cs e ∙ ap (onto c) (k (omega arith))

    none_left : (s : List ℕ) → length s ≤ first s → fields s ≡ s ∷ []
    none_left [] h = refl
    none_left (c ∷ cs) h = at_head (eqb c 9) c cs refl (none_left cs) h

-- ---- hex digits

one : (c : ℕ) (cs : List ℕ) → all_hex (c ∷ cs) ≡ (is_hex c && all_hex cs)
unfolding all_hex
one c cs = refl

pub hex_next : (s : List ℕ) (i : ℕ) (ok h : Bool) → i < length s → h ≡ is_hex (get_or s i 0) → all_hex s ≡ (ok && all_hex (drop i s))
    → all_hex s ≡ ((ok && h) && all_hex (drop (i + 1) s))
hex_next s i ok h l e inv =
    inv ∙ ap (λ (x : List ℕ). ok && all_hex x) (drop_more s i 0 l) ∙ ap (λ (b : Bool). ok && b) (one (get_or s i 0) (drop (i + 1) s))
    ∙ sym (and_assoc ok (is_hex (get_or s i 0)) (all_hex (drop (i + 1) s))) ∙ ap (λ (b : Bool). (ok && b) && all_hex (drop (i + 1) s)) (sym e)

pub hex_end : (s : List ℕ) (i : ℕ) (ok : Bool) → length s ≤ i → all_hex s ≡ (ok && all_hex (drop i s)) → ok ≡ all_hex s
unfolding all_hex
hex_end s i ok h inv = sym (inv ∙ ap (λ (x : List ℕ). ok && all_hex x) (drop_of_length-le s h) ∙ and-true ok)

two_bytes : (a b : ℕ) (l : List ℕ) → bytes (a ∷ b ∷ l) ≡ (hex_value a * 16 + hex_value b) ∷ bytes l
unfolding bytes
two_bytes a b l = refl

bytes_next : (s : List ℕ) (i : ℕ) → 2 * i + 1 < length s
    → bytes (drop (2 * i) s) ≡ (hex_value (get_or s (2 * i) 0) * 16 + hex_value (get_or s (2 * i + 1) 0)) ∷ bytes (drop (2 * (i + 1)) s)
bytes_next s i h =
    let n : 2 * i + 1 + 1 ≡ 2 * (i + 1) = omega arith in
    ap bytes (drop_more s (2 * i) 0 (omega arith) ∙ ap (λ (l : List ℕ). get_or s (2 * i) 0 ∷ l) (drop_more s (2 * i + 1) 0 h))
    ∙ two_bytes _ _ _
    ∙ ap (λ (k : ℕ). (hex_value (get_or s (2 * i) 0) * 16 + hex_value (get_or s (2 * i + 1) 0)) ∷ bytes (drop k s)) n

bytes_short : (l : List ℕ) → length l ≤ 1 → bytes l ≡ []
unfolding bytes
bytes_short [] h = refl
bytes_short (a ∷ []) h = refl
bytes_short (a ∷ b ∷ l) h = absurd (omega arith)

bytes_end : (s : List ℕ) (i : ℕ) → length s ≤ 2 * i + 1 → bytes (drop (2 * i) s) ≡ []
bytes_end s i h = bytes_short (drop (2 * i) s) (rw (length-drop) (omega arith))

-- ---- fields of one and of two bytes

-- a field of one byte is that byte
one_byte : (s : List ℕ) (c : ℕ) → length s ≡ 1 → get_or s 0 0 ≡ c → s ≡ c ∷ []
one_byte [] c h k = absurd (omega arith)
one_byte (a ∷ []) c h k = ap (λ x. x ∷ []) k
one_byte (a ∷ b ∷ s) c h k = absurd (omega arith)

pub kind_k : (s : List ℕ) → length s ≡ 1 → get_or s 0 0 ≡ 75 → kind s ≡ Some (Plain AbortDone)
unfolding kind
kind_k s h k = ap kind (one_byte s 75 h k)

pub kind_c : (s : List ℕ) → length s ≡ 1 → get_or s 0 0 ≡ 67 → kind s ≡ Some Completed
unfolding kind
kind_c s h k = ap kind (one_byte s 67 h k)

pub kind_code : (s : List ℕ) → (length s ≡ 1 → get_or s 0 0 ≡ 75 → ⊥) → (length s ≡ 1 → get_or s 0 0 ≡ 67 → ⊥) → kind s ≡ option_and_then named (code s)
unfolding kind code
kind_code [] h k = refl
kind_code (a ∷ []) h k = rw (ne_eqb a 75 (h refl), ne_eqb a 67 (k refl))
kind_code (a ∷ b ∷ s) h k = refl

pub ruleset kinds = (kind_k, kind_c, kind_code)

pub sense_x : (s : List ℕ) → length s ≡ 1 → get_or s 0 0 ≡ 88 → sense s ≡ Some sensed.Failed
unfolding sense
sense_x s h k = ap sense (one_byte s 88 h k)

pub sense_dash : (s : List ℕ) → length s ≡ 1 → get_or s 0 0 ≡ 45 → sense s ≡ Some sensed.None
unfolding sense
sense_dash s h k = ap sense (one_byte s 45 h k)

pub sense_number : (s : List ℕ) → (length s ≡ 1 → get_or s 0 0 ≡ 88 → ⊥) → (length s ≡ 1 → get_or s 0 0 ≡ 45 → ⊥) → sense s ≡ option_and_then byte_sense (number s)
unfolding sense number
sense_number [] h k = refl
sense_number (a ∷ []) h k = rw (ne_eqb a 88 (h refl), ne_eqb a 45 (k refl))
sense_number (a ∷ b ∷ s) h k = refl

pub ruleset senses = (sense_x, sense_dash, sense_number)

-- ---- storing the bytes of a block

pub decode_next : (block s : List ℕ) (i x : ℕ) → 2 * i + 1 < length s → x ≡ hex_value (get_or s (2 * i) 0) * 16 + hex_value (get_or s (2 * i + 1) 0)
    → sets block i (bytes (drop (2 * i) s)) ≡ sets (set block i x) (i + 1) (bytes (drop (2 * (i + 1)) s))
decode_next block s i x h p =
    ap (sets block i) (bytes_next s i h)
    ∙ ap (λ (k : ℕ). sets (set block i (hex_value (get_or s (2 * i) 0) * 16 + hex_value (get_or s (2 * i + 1) 0))) k (bytes (drop (2 * (i + 1)) s))) (sym (add-one i))
    ∙ ap (λ (v : ℕ). sets (set block i v) (i + 1) (bytes (drop (2 * (i + 1)) s))) (sym p)

pub decode_end : (block s : List ℕ) (i : ℕ) → length s ≤ 2 * i + 1 → sets block i (bytes (drop (2 * i) s)) ≡ block
decode_end block s i h = ap (sets block i) (bytes_end s i h)

pub length_bytes : (s : List ℕ) → length (bytes s) ≡ length s / 2
unfolding bytes
length_bytes [] = omega arith
length_bytes (a ∷ []) = omega arith
length_bytes (a ∷ b ∷ s) = let h = length_bytes s in omega arith

-- ---- one field, and no tab in it

pub has_tab : List ℕ → Bool
has_tab [] = false
has_tab (c ∷ cs) = if eqb c 9 then true else has_tab cs

only_two : (g : List ℕ → Record) (f : List ℕ) (fs : List (List ℕ)) → only g (f ∷ ahead [] fs) ≡ malformed
unfolding ahead
only_two g f [] = refl
only_two g f (f' ∷ fs) = refl

only_onto : (g : List ℕ → Record) (c : ℕ) (fs : List (List ℕ)) → only g (onto c (ahead [] fs)) ≡ only (λ f. g (c ∷ f)) (ahead [] fs)
unfolding ahead onto
only_onto g c [] = refl
only_onto g c (f ∷ []) = refl
only_onto g c (f ∷ f' ∷ fs) = refl

only_step : (g : List ℕ → Record) (c : ℕ) (cs : List ℕ) (b : Bool) → only (λ f. g (c ∷ f)) (fields cs) ≡ (if has_tab cs then malformed else g (c ∷ cs))
    → only g (if b then [] ∷ fields cs else onto c (fields cs)) ≡ (if (if b then true else has_tab cs) then malformed else g (c ∷ cs))
only_step g c cs true e = ap (λ (fs : List (List ℕ)). only g ([] ∷ fs)) (fields_start cs) ∙ only_two g [] (fields cs)
only_step g c cs false e =
    ap (λ (fs : List (List ℕ)). only g (onto c fs)) (fields_start cs) ∙ only_onto g c (fields cs)
    ∙ ap (only (λ f. g (c ∷ f))) (sym (fields_start cs)) ∙ e

only_fields : (g : List ℕ → Record) (xs : List ℕ) → only g (fields xs) ≡ (if has_tab xs then malformed else g xs)
unfolding fields has_tab
only_fields g [] = refl
only_fields g (c ∷ cs) = only_step g c cs (eqb c 9) (only_fields (λ f. g (c ∷ f)) cs)

pick_tab : (b : Bool) (x : Record) → (b ≡ true → x ≡ malformed) → (if b then malformed else x) ≡ x
pick_tab true x h = sym (h refl)
pick_tab false x h = refl

-- what stands between tabs is all that follows, for a reading that takes no tab
pub one_field : (g : List ℕ → Record) → ((xs : List ℕ) → has_tab xs ≡ true → g xs ≡ malformed) → (xs : List ℕ) → only g (fields xs) ≡ g xs
one_field g h xs = only_fields g xs ∙ pick_tab (has_tab xs) (g xs) (h xs)

hex_tab_step : (c : ℕ) (cs : List ℕ) (b : Bool) → eqb c 9 ≡ b → (has_tab cs ≡ true → all_hex cs ≡ false) → (if b then true else has_tab cs) ≡ true → all_hex (c ∷ cs) ≡ false
unfolding all_hex
hex_tab_step c cs true e ih h = rw (eqb-true c 9 e)
hex_tab_step c cs false e ih h = rw (ih h, and-false)

pub hex_tab : (xs : List ℕ) → has_tab xs ≡ true → all_hex xs ≡ false
unfolding has_tab
hex_tab [] h = absurd (let z : ◌≡◌ {A = ℕ} 0 1 = cc in omega arith)
hex_tab (c ∷ cs) h = hex_tab_step c cs (eqb c 9) refl (hex_tab cs) h

pub same : {A : Type 0} (b : Bool) (x : A) → (if b then x else x) ≡ x
same true x = refl
same false x = refl

more_tab_step : (n c : ℕ) (cs : List ℕ) (b : Bool) → eqb c 9 ≡ b → ((m : ℕ) → has_tab cs ≡ true → more m cs ≡ None) → (if b then true else has_tab cs) ≡ true → more n (c ∷ cs) ≡ None
unfolding more
more_tab_step n c cs true e ih h = rw (eqb-true c 9 e)
more_tab_step n c cs false e ih h = none_after (λ m. more m cs) (λ m. ih m h) (with_digit n c)
  where
    none_after : (f : ℕ → Option ℕ) → ((m : ℕ) → f m ≡ None) → (o : Option ℕ) → option_and_then f o ≡ None
    none_after f h None = refl
    none_after f h (Some m) = h m

more_tab : (n : ℕ) (xs : List ℕ) → has_tab xs ≡ true → more n xs ≡ None
unfolding has_tab
more_tab n [] h = absurd (let z : ◌≡◌ {A = ℕ} 0 1 = cc in omega arith)
more_tab n (c ∷ cs) h = more_tab_step n c cs (eqb c 9) refl (λ m. more_tab m cs) h

pub number_tab : (xs : List ℕ) → has_tab xs ≡ true → number xs ≡ None
unfolding number
number_tab [] h = refl
number_tab (c ∷ []) h = more_tab 0 (c ∷ []) h
number_tab (c ∷ d ∷ ds) h = rw (more_tab 0 (c ∷ d ∷ ds) h, same)

byte_tab : (xs : List ℕ) → has_tab xs ≡ true → option_and_then byte_sense (number xs) ≡ None
byte_tab xs h = rw (number_tab xs h)

pub sense_tab : (xs : List ℕ) → has_tab xs ≡ true → sense xs ≡ None
unfolding sense has_tab
sense_tab [] h = refl
sense_tab (c ∷ []) h = one_tab (eqb c 9) refl h
  where
    one_tab : (b : Bool) → eqb c 9 ≡ b → (if b then true else false) ≡ true → sense (c ∷ []) ≡ None
    one_tab true e h = ap (λ (x : ℕ). sense (x ∷ [])) (eqb-true c 9 e) ∙ byte_tab (9 ∷ []) refl
    one_tab false e h = absurd (let z : ◌≡◌ {A = Bool} false true = h in cc)
sense_tab (c ∷ d ∷ ds) h = byte_tab (c ∷ d ∷ ds) h

-- ---- the value of a hex digit, in one sum

abbrev sum_of : ℕ → ℕ
sum_of c = c % 16 + 9 * (c / 64)

pub digit_value : (c : ℕ) → is_hex c ≡ true → (sum_of c ≡ hex_value c) × (sum_of c < 16)
unfolding hex_value
digit_value c h = by_cases (48 ≤? c && c ≤? 57)
    (λ e. let l = both (48 ≤? c) (c ≤? 57) e in let a : 48 ≤ c = at_most l.0 in let b : c ≤ 57 = at_most l.1 in rw e (omega arith, omega arith))
    (λ e. let f : (65 ≤? c && c ≤? 70) ≡ true = subst (λ x. (x || (65 ≤? c && c ≤? 70)) ≡ true) e h in
    let l = both (65 ≤? c) (c ≤? 70) f in let a : 65 ≤ c = at_most l.0 in let b : c ≤ 70 = at_most l.1 in rw (e, f) (omega arith, omega arith))

-- a digit of many
pub hex_at : (s : List ℕ) (i : ℕ) → all_hex s ≡ true → i < length s → is_hex (get_or s i 0) ≡ true
unfolding all_hex
hex_at [] i h l = absurd (omega arith)
hex_at (c ∷ s) zero h l = (both (is_hex c) (all_hex s) h).0
hex_at (c ∷ s) (suc i) h l = hex_at s i (both (is_hex c) (all_hex s) h).1 (omega arith)
