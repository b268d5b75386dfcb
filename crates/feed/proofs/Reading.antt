-- What a read put into a buffer. Assumes nothing.
use Prim.Native.Nat.{ℕ, ◌+◌, ◌≤◌}
use native.Mathlib.Omega.{arith}
use mathlib.Core.Path.{◌≡◌, sym, ap, ◌∙◌}
use mathlib.Core.List.{List, ◌++◌}
use lib.ListN.{length, take, drop}
use lib.Seq.{length-take-le, take-append-le, take-append-add, drop-append_seam}
use borrow.Rule.Slice.PartMut.{put_mid, post_of}
use Rattle.std.specs.Prelude.{Option, Some, None, Result, Ok, Err, IfOk}
use Rattle.std.specs.Result.{result_unwrap_or}
use Rattle.std.specs.Counts.{IsPrefixLen}
use Rattle.std.specs.Io.KnownBytes.{Consumes, ReadConsumes}

-- as many bytes as a read says, none where it fails: those were the input's next ones
consumed : {E : Type 0} (old new : Option (List ℕ)) (r : Result ℕ E) (buf : List ℕ) → ReadConsumes old new r buf → Consumes old new (take (result_unwrap_or r 0) buf)
consumed old new (Ok n) buf c = c.0
consumed None new (Err why) buf c = tt
consumed (Some xs) None (Err why) buf c = absurd c
consumed (Some xs) (Some ys) (Err why) buf c = sym c

-- and the buffer has room for them
at_most_read : {E : Type 0} (r : Result ℕ E) (buf : List ℕ) → IfOk r (λ n. IsPrefixLen n buf) → result_unwrap_or r 0 ≤ length buf
at_most_read (Ok n) buf h = h.0
at_most_read (Err why) buf h = omega arith

-- behind the first l bytes of a buffer stands what was read
behind : (l k n : ℕ) (bytes given : List ℕ) → l ≤ length bytes → n ≤ length given → drop (length (take l bytes)) (take (l + n) (put_mid l k bytes given)) ≡ take n given
behind l k n bytes given within few =
    let size : length (take l bytes) ≡ l = length-take-le l bytes within in
    let rest = given ++ post_of l k bytes in
    ap (λ (j : ℕ). drop (length (take l bytes)) (take (j + n) (take l bytes ++ rest))) (sym size)
    ∙ ap (drop (length (take l bytes))) (take-append-add (take l bytes) rest n)
    ∙ drop-append_seam (take l bytes) (take n rest)
    ∙ take-append-le n given (post_of l k bytes) few

-- both together, as `read` has them
pub came : {E : Type 0} (old new : Option (List ℕ)) (r : Result ℕ E) (l k n : ℕ) (bytes now given : List ℕ) → take l bytes ≡ now → l ≤ length bytes → n ≡ result_unwrap_or r 0
    → IfOk r (λ n. IsPrefixLen n given) → ReadConsumes old new r given → Consumes old new (drop (length now) (take (l + n) (put_mid l k bytes given)))
came old new r l k n bytes now given v within e h c =
    rw (sym v, e) (rw (behind l k (result_unwrap_or r 0) bytes given within (at_most_read r given h)) (consumed old new r given c))
