-- A line over 400 bytes is malformed, however long it is, so its first 401 bytes are read as the whole is. Assumes nothing.
use Prim.Native.Nat.{ℕ, ◌≤◌, ◌<◌}
use mathlib.Core.Path.{◌≡◌, refl, sym, ap, ◌∙◌}
use mathlib.Core.Bool.{Bool, true, false}
use mathlib.Core.List.{List}
use native.Mathlib.Omega.{arith}
use borrow.Author.Tests.{lt-leb, leb-true, leb-false}
use lib.Dec.{leb}
use lib.ListN.{length, take, length-take}
use lib.Seq.{take_all}
use Rattle.lines.specs.Record.{malformed, parse}

pub parse_long : (l : List ℕ) → 400 < length l → parse l ≡ malformed
unfolding parse
parse_long l h = rw (lt-leb (length l) 400 h)

pub parse_cut : (l l' : List ℕ) → take 401 l ≡ take 401 l' → parse l ≡ parse l'
parse_cut l l' e = by_length (leb (length l) 400) refl
  where
    same_length : length (take 401 l) ≡ length (take 401 l')
    same_length = ap length e

    by_length : (b : Bool) → leb (length l) 400 ≡ b → parse l ≡ parse l'
    by_length true h =
        let short = leb-true (length l) 400 h in
        let short' : length l' ≤ 401 = omega (arith, same_length, length-take 401 l, length-take 401 l', short) in
        ap parse (sym (take_all 401 l (omega (arith, short))) ∙ e ∙ take_all 401 l' short')
    by_length false h =
        let long = leb-false (length l) 400 h in
        let long' : 400 < length l' = omega (arith, same_length, length-take 401 l, length-take 401 l', long) in
        parse_long l long ∙ sym (parse_long l' long')
