-- What the first place of row k, and a search by ticket along it, say of the row. Assumes nothing.
use Rattle.std.proofs.Common.{◌≡◌, ℕ, ◌<◌, ◌≢◌, List, [], ◌∷◌, ◌++◌, sym, ap, ◌∙◌, arith}
use Rattle.std.specs.Prelude.{Option, None, Some}
use Rattle.board.specs.declared.Ticket.{Ticket}
use Rattle.board.specs.Plain.{Each}
use Rattle.rows.specs.declared.Spot.{Spot}
use Rattle.rows.specs.Words.{head, as_place, ticket_at}
use Rattle.rows.specs.Rows.{row_of, SoundRows}
use Rattle.rows.specs.Searches.{spot, spot_of}
use Rattle.rows.proofs.Search.{last_of, Seeks, seeks_at, seeks_nowhere, seek_row}
use Rattle.rows.proofs.Shown.{first_some, first_none, row_some, row_none}

-- the row begins with its first place
pub row_first : (m : List ℕ) → SoundRows m → (k p : ℕ) → k < 67 → as_place (head m k) ≡ Some p → (more : List ℕ) × (row_of m k ≡ p ∷ more)
row_first m v k p h e =
    let f = first_some m k p e in
    let r = row_some m v k h (omega (arith, f.0, f.1)) in
    (r.0, r.1 ∙ ap (λ x. x ∷ r.0) f.0)

-- or is empty
pub row_empty : (m : List ℕ) → SoundRows m → (k : ℕ) → k < 67 → as_place (head m k) ≡ None → row_of m k ≡ []
row_empty m v k h e = row_none m v k h (first_none m k e)

-- no place of the row has the ticket
pub not_sought : (m : List ℕ) (k : ℕ) (t : Ticket) → spot_of m k t.0 ≡ None → Each (λ x. ticket_at m x ≢ t.0) (row_of m k)
not_sought m k t e = go _ (seek_row m k t.0) e
  where
    go : (s : Option Spot) → Seeks m t.0 None (row_of m k) s → s ≡ None → Each (λ x. ticket_at m x ≢ t.0) (row_of m k)
    go s (seeks_at a b q p f la y d) z = let w : ◌≡◌ {A = ℕ} 0 1 = cc in absurd (omega arith)
    go s (seeks_nowhere d) z = d

-- or p is the first that has it: the row parted there, q before it
pub record Sought (m : List ℕ) (k : ℕ) (t : Ticket) (q : Option ℕ) (p : ℕ) : Type 0 where
  pub a : List ℕ
  pub b : List ℕ
  pub parted : row_of m k ≡ a ++ (p ∷ b)
  pub last : q ≡ last_of None a
  pub ticket : ticket_at m p ≡ t.0
  pub before : Each (λ x. ticket_at m x ≢ t.0) a

pub sought : (m : List ℕ) (k : ℕ) (t : Ticket) (q : Option ℕ) (p : ℕ) → spot_of m k t.0 ≡ Some (spot q p) → Sought m k t q p
sought m k t q p e = go _ (seek_row m k t.0) e
  where
    go : (s : Option Spot) → Seeks m t.0 None (row_of m k) s → s ≡ Some (spot q p) → Sought m k t q p
    go s (seeks_at a b q' p' f la y d) z =
        let same : spot q' p' ≡ spot q p = cc in
        let ep = ap (λ (x : Spot). x.place) same in
        record {
          a = a;
          b = b;
          parted = f ∙ ap (λ x. a ++ (x ∷ b)) ep;
          last = sym (ap (λ (x : Spot). x.before) same) ∙ la;
          ticket = ap (ticket_at m) (sym ep) ∙ y;
          before = d;
        }
    go s (seeks_nowhere d) z = let w : ◌≡◌ {A = ℕ} 0 1 = cc in absurd (omega arith)
