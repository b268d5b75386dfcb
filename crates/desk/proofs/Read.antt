-- What is read at a place after each of the stores: at the place itself, and at any other. Assumes nothing.
use Rattle.std.proofs.Common.{◌≡◌, ℕ, zero, suc, ◌+◌, ◌<◌, ◌≤◌, Bool, true, false, not, ◌≢◌, List, [], ◌∷◌, length, get_or, set, ℤ, pos, negsuc, refl, ◌∙◌, mod-eq_of_lt, arith, length-set, get_or-set_same}
use Rattle.board.specs.declared.Request.{Request}
use Rattle.board.specs.declared.Told.{Told}
use Rattle.board.specs.Plain.{◌=?◌}
use Rattle.board.specs.Block.{word, signed}
use lib.Signed.{mag}
use mir.Val.{bool_byte}
use Rattle.board.proofs.Written.{written as written_laws}
use Rattle.rows.specs.Words.{ticket_at}
use Rattle.rows.proofs.Links.{off}
use Rattle.rows.proofs.Carry.{SameLinks, same_links, set_links}
use Rattle.desk.specs.Words.{word_of, field, address_at, bit, stores, started, closed, ToldFits, written}
use Rattle.desk.specs.View.{request_at, active_at, finished_at}

-- ---- places that read the same

-- the words of the request itself
pub record SameRequest (m m' : List ℕ) (x : ℕ) : Type 0 where
  pub ticket : ticket_at m' x ≡ ticket_at m x
  pub address : address_at m' x ≡ address_at m x
  pub fields : (j : ℕ) → j < 10 → field m' x j ≡ field m x j

-- and those of its stage
pub record SamePlace (m m' : List ℕ) (x : ℕ) : Type 0 where
  pub request : SameRequest m m' x
  pub stage : (j : ℕ) → 10 ≤ j → j < 16 → field m' x j ≡ field m x j

pub same_request_at : {m m' : List ℕ} {x : ℕ} → SameRequest m m' x → request_at m' x ≡ request_at m x
same_request_at s =
    rw (
      s.ticket,
      s.address,
      s.fields 0 (omega arith),
      s.fields 1 (omega arith),
      s.fields 2 (omega arith),
      s.fields 3 (omega arith),
      s.fields 4 (omega arith),
      s.fields 5 (omega arith),
      s.fields 6 (omega arith),
      s.fields 7 (omega arith),
      s.fields 8 (omega arith),
      s.fields 9 (omega arith),
    )

pub same_active_at : {m m' : List ℕ} {x : ℕ} → SamePlace m m' x → active_at m' x ≡ active_at m x
same_active_at s = rw (same_request_at s.request, s.stage 10 (omega arith) (omega arith), s.stage 11 (omega arith) (omega arith), s.stage 12 (omega arith) (omega arith))

pub same_finished_at : {m m' : List ℕ} {x : ℕ} → SamePlace m m' x → finished_at m' x ≡ finished_at m x
same_finished_at s =
    rw (
      same_request_at s.request,
      s.stage 10 (omega arith) (omega arith),
      s.stage 11 (omega arith) (omega arith),
      s.stage 12 (omega arith) (omega arith),
      s.stage 13 (omega arith) (omega arith),
    )

-- where every word from 198 on is the same
pub kept_place : (m m' : List ℕ) (x : ℕ) → ((i : ℕ) → 198 ≤ i → get_or m' i 0 ≡ get_or m i 0) → SamePlace m m' x
kept_place m m' x e = record {
  request = record { ticket = e (198 + x) (omega arith); address = e (230 + x) (omega arith); fields = λ j h. e (word_of x j) (omega arith) };
  stage = λ j l h. e (word_of x j) (omega arith);
}

pub then_place : {a b c : List ℕ} {x : ℕ} → SamePlace a b x → SamePlace b c x → SamePlace a c x
then_place s t = record {
  request = record { ticket = t.request.ticket ∙ s.request.ticket; address = t.request.address ∙ s.request.address; fields = λ j h. t.request.fields j h ∙ s.request.fields j h };
  stage = λ j l h. t.stage j l h ∙ s.stage j l h;
}

pub then_request : {a b c : List ℕ} {x : ℕ} → SameRequest a b x → SameRequest b c x → SameRequest a c x
then_request s t = record { ticket = t.ticket ∙ s.ticket; address = t.address ∙ s.address; fields = λ j h. t.fields j h ∙ s.fields j h }

-- ---- stores of a place's own words

-- one, seen from another place
other_place : (m : List ℕ) (p i x q : ℕ) → i < 16 → q ≢ p → q < 32 → SamePlace m (set m (word_of p i) x) q
other_place m p i x q hi n hq = record {
  request = record {
    ticket = off m (word_of p i) (198 + q) x (omega arith);
    address = off m (word_of p i) (230 + q) x (omega arith);
    fields = λ j h. off m (word_of p i) (word_of q j) x (omega arith);
  };
  stage = λ j l h. off m (word_of p i) (word_of q j) x (omega arith);
}

pub stores_links : (m : List ℕ) (p j : ℕ) (xs : List ℕ) → SameLinks m (stores m p j xs)
unfolding stores
stores_links m p j xs = go xs m j (same_links m)
  where
    go : (xs b : List ℕ) (j : ℕ) → SameLinks m b → SameLinks m (stores b p j xs)
    go [] b j s = s
    go (x ∷ xs) b j s = go xs (set b (word_of p j) x) (suc j) (set_links m b (word_of p j) x s (omega arith))

pub stores_other : (m : List ℕ) (p j : ℕ) (xs : List ℕ) (q : ℕ) → j + length xs ≤ 16 → q < 32 → q ≢ p → SamePlace m (stores m p j xs) q
unfolding stores
stores_other m p j [] q h hq n = kept_place m m q (λ i l. refl)
stores_other m p j (x ∷ xs) q h hq n = then_place (other_place m p j x q (omega arith) n hq) (stores_other (set m (word_of p j) x) p (suc j) xs q (omega arith) hq n)

-- a word of the place before those that are stored
stores_before : (m : List ℕ) (p j : ℕ) (xs : List ℕ) (i : ℕ) → i < j → field (stores m p j xs) p i ≡ field m p i
unfolding stores
stores_before m p j [] i h = refl
stores_before m p j (x ∷ xs) i h = stores_before (set m (word_of p j) x) p (suc j) xs i (omega arith) ∙ off m (word_of p j) (word_of p i) x (omega arith)

-- the i-th of those that are stored
pub stores_at : (m : List ℕ) (p j : ℕ) (xs : List ℕ) (i : ℕ) → p < 32 → length m ≡ 838 → j + length xs ≤ 16 → i < length xs → field (stores m p j xs) p (j + i) ≡ get_or xs i 0
unfolding stores
stores_at m p j [] i hp sz h l = absurd (omega arith)
stores_at m p j (x ∷ xs) zero hp sz h l =
    let e : j + 0 ≡ j = omega arith in
    rw e (stores_before (set m (word_of p j) x) p (suc j) xs j (omega arith) ∙ get_or-set_same m (word_of p j) x 0 (omega arith))
stores_at m p j (x ∷ xs) (suc i) hp sz h l =
    let e : j + suc i ≡ suc j + i = omega arith in
    rw e (stores_at (set m (word_of p j) x) p (suc j) xs i hp (simp length-set sz) (omega arith) (omega arith))

pub stores_low : (m : List ℕ) (p j : ℕ) (xs : List ℕ) (i : ℕ) → i < 326 → get_or (stores m p j xs) i 0 ≡ get_or m i 0
unfolding stores
stores_low m p j [] i h = refl
stores_low m p j (x ∷ xs) i h = stores_low (set m (word_of p j) x) p (suc j) xs i h ∙ off m (word_of p j) i x (omega arith)

-- words of the stage alone leave the request
pub stage_stores : (m : List ℕ) (p : ℕ) (xs : List ℕ) → p < 32 → SameRequest m (stores m p 10 xs) p
stage_stores m p xs hp = record {
  ticket = stores_low m p 10 xs (198 + p) (omega arith);
  address = stores_low m p 10 xs (230 + p) (omega arith);
  fields = λ j h. stores_before m p 10 xs j h;
}

-- ---- sent

pub started_active : (m : List ℕ) (p c : ℕ) → p < 32 → length m ≡ 838 → active_at (started m p c) p ≡ record { request = request_at m p; start = c; asked = false; overdue = false }
unfolding started
started_active m p c hp sz =
    let xs : List ℕ = c ∷ 0 ∷ 0 ∷ [] in
    rw (
      same_request_at (stage_stores m p xs hp),
      stores_at m p 10 xs 0 hp sz (omega arith) (omega arith),
      stores_at m p 10 xs 1 hp sz (omega arith) (omega arith),
      stores_at m p 10 xs 2 hp sz (omega arith) (omega arith),
    )

-- ---- ended

pub closed_finished : (m : List ℕ) (p : ℕ) (x : Told) → p < 32 → length m ≡ 838 → ToldFits x → finished_at (closed m p x) p ≡ record { request = request_at m p; told = x }
unfolding closed
closed_finished m p x hp sz f =
    let xs : List ℕ = x.status ∷ x.scsi ∷ x.unsensed ∷ word x.residual ∷ [] in
    rw (
      same_request_at (stage_stores m p xs hp),
      stores_at m p 10 xs 0 hp sz (omega arith) (omega arith),
      stores_at m p 10 xs 1 hp sz (omega arith) (omega arith),
      stores_at m p 10 xs 2 hp sz (omega arith) (omega arith),
      stores_at m p 10 xs 3 hp sz (omega arith) (omega arith),
      mod-eq_of_lt f.status,
      mod-eq_of_lt f.scsi,
      mod-eq_of_lt f.unsensed,
      f.residual,
    )

-- a number of 32 bits with its sign is what its word stands for
pub signed_back : (z : ℤ) → mag z < 2147483648 → signed (word z) ≡ z
signed_back (pos n) h = written_laws.signed_word n h
signed_back (negsuc n) h = written_laws.signed_word_below_zero n h

-- ---- written

-- a request whose numbers fit its words
pub record RequestFits (q : Request) : Type 0 where
  pub unit : q.unit.0 < 64
  pub length : q.length < 0x1000000
  pub sense : q.sense < 256

bit_back : (c : Bool) → not (bit c =? 0) ≡ c
bit_back true = refl
bit_back false = refl

module _ (m : List ℕ) (p : ℕ) (q : Request) (hp : p < 32) where
  abbrev w₁ : List ℕ
  w₁ = set m (198 + p) q.ticket.0

  abbrev w₂ : List ℕ
  w₂ = set w₁ (230 + p) q.address

  abbrev xs : List ℕ
  xs = q.unit.0 ∷ q.callback ∷ bit q.wanted ∷ q.length ∷ q.sense ∷ bit q.autosense ∷ q.timeout ∷ q.cdb.first ∷ q.cdb.second ∷ q.cdb.third ∷ []

  pub written_links : SameLinks m (written m p q)
  unfolding written
  written_links =
      let a = set_links m w₁ (230 + p) q.address (set_links m m (198 + p) q.ticket.0 (same_links m) (omega arith)) (omega arith) in
      let b = stores_links w₂ p 0 xs in
      record { size = b.size ∙ a.size; links = λ i h. b.links i h ∙ a.links i h }

  pub written_other : (x : ℕ) → x < 32 → x ≢ p → SamePlace m (written m p q) x
  unfolding written
  written_other x hx n =
      then_place record {
        request = record {
          ticket = off w₁ (230 + p) (198 + x) q.address (omega arith) ∙ off m (198 + p) (198 + x) q.ticket.0 (omega arith);
          address = off w₁ (230 + p) (230 + x) q.address (omega arith) ∙ off m (198 + p) (230 + x) q.ticket.0 (omega arith);
          fields = λ j h. off w₁ (230 + p) (word_of x j) q.address (omega arith) ∙ off m (198 + p) (word_of x j) q.ticket.0 (omega arith);
        };
        stage = λ j l h. off w₁ (230 + p) (word_of x j) q.address (omega arith) ∙ off m (198 + p) (word_of x j) q.ticket.0 (omega arith);
      } (stores_other w₂ p 0 xs x (omega arith) hx n)

  pub written_request : length m ≡ 838 → RequestFits q → request_at (written m p q) p ≡ q
  unfolding written
  written_request sz f =
      let s₂ : length w₂ ≡ 838 = simp length-set sz in
      rw (
        stores_low w₂ p 0 xs (198 + p) (omega arith) ∙ (off w₁ (230 + p) (198 + p) q.address (omega arith) ∙ get_or-set_same m (198 + p) q.ticket.0 0 (omega arith)),
        stores_low w₂ p 0 xs (230 + p) (omega arith) ∙ get_or-set_same w₁ (230 + p) q.address 0 (simp length-set (omega arith)),
        stores_at w₂ p 0 xs 0 hp s₂ (omega arith) (omega arith),
        stores_at w₂ p 0 xs 1 hp s₂ (omega arith) (omega arith),
        stores_at w₂ p 0 xs 2 hp s₂ (omega arith) (omega arith),
        stores_at w₂ p 0 xs 3 hp s₂ (omega arith) (omega arith),
        stores_at w₂ p 0 xs 4 hp s₂ (omega arith) (omega arith),
        stores_at w₂ p 0 xs 5 hp s₂ (omega arith) (omega arith),
        stores_at w₂ p 0 xs 6 hp s₂ (omega arith) (omega arith),
        stores_at w₂ p 0 xs 7 hp s₂ (omega arith) (omega arith),
        stores_at w₂ p 0 xs 8 hp s₂ (omega arith) (omega arith),
        stores_at w₂ p 0 xs 9 hp s₂ (omega arith) (omega arith),
        mod-eq_of_lt f.unit,
        mod-eq_of_lt f.length,
        mod-eq_of_lt f.sense,
        bit_back q.wanted,
        bit_back q.autosense,
      )

-- a truth value by the library's conversion
pub bit_from : (c : Bool) → bool_byte c ≡ bit c
bit_from true = refl
bit_from false = refl
