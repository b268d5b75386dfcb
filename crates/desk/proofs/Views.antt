-- The view, part by part: when two boards are the same, and what a place carried from one row to another does to each part of the
-- board that the words show. Assumes nothing.
use Rattle.std.proofs.Common.{◌≡◌, ℕ, ◌<◌, ◌≤◌, Bool, ◌≢◌, List, [], map, sym, refl, ap, ◌∙◌, subst}
use Rattle.board.specs.declared.Unit.{Unit}
use Rattle.board.specs.declared.Request.{Request}
use Rattle.board.specs.Plain.{◌<?◌}
use Rattle.board.specs.Board.{same_unit, at, units, no_freeze, Freeze, Board}
use Rattle.board.specs.Calls.{Call, step}
use Rattle.board.specs.Answers.{Answer, refused, Stepped}
use Rattle.board.specs.Limits.{Sound}
use Rattle.board.proofs.Choose.{by_cases, same, differ, below, not_below, when_below, unless_below, one_unit, at_same, at_other}
use Rattle.board.proofs.Limits.{soundness}
use Rattle.rows.specs.Rows.{row_of, SoundRows}
use Rattle.rows.proofs.Carry.{Out, Carried}
use Rattle.desk.specs.Words.{freeze_at}
use Rattle.desk.specs.View.{request_at, active_at, finished_at, freeze_of, waiting_row, Rest, view, Valid}
use Rattle.desk.specs.Promise.{Does}
use Rattle.desk.proofs.Read.{SamePlace, same_request_at, same_active_at, same_finished_at, kept_place, then_place}

-- two boards with the same parts
pub board_same : (b d : Board) → ((u : Unit) → b.waiting u ≡ d.waiting u) → b.active ≡ d.active → b.finished ≡ d.finished → ((u : Unit) → b.freezes u ≡ d.freezes u) → b.clock ≡ d.clock → b.mark ≡ d.mark → b.given ≡ d.given → b ≡ d
board_same b d w a f z c k g =
    λ i. record { waiting = λ u. w u i; active = a i; finished = f i; freezes = λ u. z u i; clock = c i; mark = k i; given = g i }

-- ---- a promise, from the parts that are left to show: the rows stay sound, and the rest follows from `step`

pub does : {m m' : List ℕ} {r r' : Rest} {c : Call} {a : Answer} {s' : List ℕ}
    → (Valid m r → SoundRows m')
    → (Valid m r → view m' r' ≡ (step (view m r) c).board)
    → (Valid m r → a ≡ (step (view m r) c).answer)
    → (Valid m r → s' ≡ (step (view m r) c).lent)
    → ((n : ℕ) → a ≡ refused n → m' ≡ m)
    → Does m m' r r' c a s'
does {m} {m'} {r} {r'} {c} rows board says lent untouched = record {
  valid = λ v. record { rows = rows v; sound = subst Sound (sym (board v)) (soundness.step_sound (view m r) c v.sound) };
  board = board;
  says = says;
  lent = lent;
  untouched = untouched;
}

-- a call that makes the same step keeps the same promise
pub does_as : {m m' : List ℕ} {r r' : Rest} {a : Answer} {s' : List ℕ} (c c' : Call) → ((b : Board) → step b c ≡ step b c') → Does m m' r r' c a s' → Does m m' r r' c' a s'
does_as {m} {r = r} c c' e d = record {
  valid = d.valid;
  board = λ v. d.board v ∙ ap (λ x. x.board) (e (view m r));
  says = λ v. d.says v ∙ ap (λ x. x.answer) (e (view m r));
  lent = λ v. d.lent v ∙ ap (λ x. x.lent) (e (view m r));
  untouched = d.untouched;
}

-- the same from what the call leaves, said of whatever `step` is equal to
pub record Leaves (m' : List ℕ) (r' : Rest) (a : Answer) (s' : List ℕ) (t : Stepped) : Type 0 where
  pub rows : SoundRows m'
  pub board : view m' r' ≡ t.board
  pub says : a ≡ t.answer
  pub lent : s' ≡ t.lent

pub leaves : {m m' : List ℕ} {r r' : Rest} {c : Call} {a : Answer} {s' : List ℕ} → (Valid m r → Leaves m' r' a s' (step (view m r) c)) → ((n : ℕ) → a ≡ refused n → m' ≡ m) → Does m m' r r' c a s'
leaves l u = does (λ v. (l v).rows) (λ v. (l v).board) (λ v. (l v).says) (λ v. (l v).lent) u

-- a call that leaves the words as they are, and says so
pub unchanged : {m : List ℕ} {r : Rest} {c : Call} (a : Answer) (s' : List ℕ) → (Valid m r → step (view m r) c ≡ record { board = view m r; answer = a; lent = s' }) → Does m m r r c a s'
unchanged {m} {r} a s' e =
    leaves (λ v. subst (Leaves m r a s') (sym (e v)) (record { rows = v.rows; board = refl; says = refl; lent = refl })) (λ n z. refl)

-- ---- the parts of a view

module _ (m : List ℕ) (r : Rest) where
  pub waiting_on : (u : Unit) → u.0 < units → (view m r).waiting u ≡ map (request_at m) (row_of m (waiting_row u.0))
  unfolding view
  waiting_on u h = rw (when_below h)

  pub waiting_nowhere : (u : Unit) → units ≤ u.0 → (view m r).waiting u ≡ []
  unfolding view
  waiting_nowhere u h = rw (unless_below h)

  pub freeze_on : (u : Unit) → u.0 < units → (view m r).freezes u ≡ freeze_of (freeze_at m u.0)
  unfolding view
  freeze_on u h = rw (when_below h)

  pub freeze_nowhere : (u : Unit) → units ≤ u.0 → (view m r).freezes u ≡ no_freeze
  unfolding view
  freeze_nowhere u h = rw (unless_below h)

-- freezes are read from the same words
pub same_freezes : (m m' : List ℕ) (r r' : Rest) → ((u : ℕ) → u < units → freeze_at m' u ≡ freeze_at m u) → (u : Unit) → (view m' r').freezes u ≡ (view m r).freezes u
same_freezes m m' r r' e u =
    by_cases (u.0 <? units)
    (λ h. freeze_on m' r' u (below h) ∙ (ap freeze_of (e u.0 (below h)) ∙ sym (freeze_on m r u (below h))))
    (λ h. freeze_nowhere m' r' u (not_below h) ∙ sym (freeze_nowhere m r u (not_below h)))

-- something of each unit, one of them changed
changed : {A : Type 0} (f g : Unit → A) (u : Unit) (x : A) → f u ≡ x → ((v : Unit) → v.0 < units → v.0 ≢ u.0 → f v ≡ g v) → ((v : Unit) → units ≤ v.0 → f v ≡ g v) → (v : Unit) → f v ≡ at u x g v
changed f g u x here there nowhere v =
    by_cases (same_unit v u)
    (λ e. subst (λ w. f w ≡ at u x g w) (sym (one_unit (same e))) (here ∙ sym (at_same u x g)))
    (λ e.
    let same_there : f v ≡ g v = by_cases (v.0 <? units) (λ b. there v (below b) (differ e)) (λ b. nowhere v (not_below b)) in
    same_there ∙ sym (at_other u v x g (λ z. differ e (ap (λ w. w.0) z))))

pub freezes_changed : (m m' : List ℕ) (r r' : Rest) (u : Unit) (x : Freeze) → u.0 < units → freeze_of (freeze_at m' u.0) ≡ x
    → ((v : ℕ) → v < units → v ≢ u.0 → freeze_at m' v ≡ freeze_at m v)
    → (v : Unit) → (view m' r').freezes v ≡ at u x (view m r).freezes v
freezes_changed m m' r r' u x h here there =
    changed (view m' r').freezes (view m r).freezes u x (freeze_on m' r' u h ∙ here)
    (λ v b n. freeze_on m' r' v b ∙ (ap freeze_of (there v.0 b n) ∙ sym (freeze_on m r v b)))
    (λ v b. freeze_nowhere m' r' v b ∙ sym (freeze_nowhere m r v b))

pub waiting_changed : (m m' : List ℕ) (r r' : Rest) (u : Unit) (l : List Request) → u.0 < units
    → map (request_at m') (row_of m' (waiting_row u.0)) ≡ l
    → ((v : ℕ) → v < units → v ≢ u.0 → map (request_at m') (row_of m' (waiting_row v)) ≡ map (request_at m) (row_of m (waiting_row v)))
    → (v : Unit) → (view m' r').waiting v ≡ at u l (view m r).waiting v
waiting_changed m m' r r' u l h here there =
    changed (view m' r').waiting (view m r).waiting u l (waiting_on m' r' u h ∙ here)
    (λ v b n. waiting_on m' r' v b ∙ (there v.0 b n ∙ sym (waiting_on m r v b)))
    (λ v b. waiting_nowhere m' r' v b ∙ sym (waiting_nowhere m r v b))

-- orders of waiting, none of them changed
pub same_waiting : (m m' : List ℕ) (r r' : Rest) → ((v : ℕ) → v < units → map (request_at m') (row_of m' (waiting_row v)) ≡ map (request_at m) (row_of m (waiting_row v)))
    → (v : Unit) → (view m' r').waiting v ≡ (view m r).waiting v
same_waiting m m' r r' e v =
    by_cases (v.0 <? units)
    (λ b. waiting_on m' r' v (below b) ∙ (e v.0 (below b) ∙ sym (waiting_on m r v (below b))))
    (λ b. waiting_nowhere m' r' v (not_below b) ∙ sym (waiting_nowhere m r v (not_below b)))

-- ---- a place carried from row k to row j, with other words at it alone

module _ {m m₁ m₂ m' : List ℕ} {k j p : ℕ} {f : Bool} {l : List ℕ}
    (o : Out m m₁ k p l) (c : Carried m m₂ m' k j p f l) (s : (x : ℕ) → x < 32 → x ≢ p → SamePlace m₁ m₂ x)
  where
    pub others : (x : ℕ) → x < 32 → x ≢ p → SamePlace m m' x
    others x h n = then_place (kept_place m m₁ x o.kept) (then_place (s x h n) (kept_place m₂ m' x c.kept))

    pub request_others : (x : ℕ) → x < 32 → x ≢ p → request_at m' x ≡ request_at m x
    request_others x h n = same_request_at (others x h n).request

    pub active_others : (x : ℕ) → x < 32 → x ≢ p → active_at m' x ≡ active_at m x
    active_others x h n = same_active_at (others x h n)

    pub finished_others : (x : ℕ) → x < 32 → x ≢ p → finished_at m' x ≡ finished_at m x
    finished_others x h n = same_finished_at (others x h n)
