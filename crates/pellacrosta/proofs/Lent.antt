-- What walks by hand of `pella_tick` and `pella_send` have in common (no proof cites it now: their proofs have no file): both are lent the
-- memory and the wheel by `&mut`, and count the words
-- between them. In this order:
--     takes        at the start: the two borrows, without the count
--     given_up     at an early return: both borrows are given up as they came
--     had_back     at the end: what a callee that both were passed on to says of them
-- Assumes `Logic`.
use Prim.Native.Nat.{ℕ}
use mathlib.Core.List.{List, [], ◌∷◌}
use seplogic.Ra.Ura.{Ura}
use mir.Syntax.{named, w64}
use mir.Val.{vint}
use base.Logic.{SProp}
use base.Fml.{Fml, Lft, ftrue, fsep, fres}
use types.Logic.{Logic}
use types.Kit.{Item, Goal, Step, step, ‵, raw, ◌$◌, move, drop, fsplit, fjoin}
use denote.Array.{Array}
use denote.Builtin.{u32, u64}
use denote.Ref.{MutBor, MutRef, mut_vals}
use denote.Steps.{nothing}
use Rattle.wheel.specs.declared.Wheel.{Wheel}
use Rattle.wheel.specs.contracts.Wheel as T
use Rattle.walk.proofs.Walk.{gives_up}

abbrev memory : Lft → MutBor (List ℕ) → Fml
memory κ x = (MutRef (named 0) κ (Array u32 838)).own_val x (mut_vals x)

abbrev wheel : Lft → MutBor Wheel → Fml
wheel κ w = (MutRef (named 1) κ T.the_row).own_val w (mut_vals w)

abbrev last_words : MutBor (List ℕ) → List ℕ → Fml
last_words x m = fres x.ghost_name ((Array u32 838).coded.code m)

abbrev last_wheel : MutBor Wheel → Wheel → Fml
last_wheel w v = fres w.ghost_name ((T.the_row).coded.code v)

module _ {M : Type 1} {𝓤 : Ura M} {𝓛 : Logic 𝓤} {K : Type 0} {Γ : List (Item 𝓤)} {G : Goal 𝓤 𝓛.H} {tokens : SProp 𝓤} where
  pub takes : K → (κ κ' : Lft) (x : MutBor (List ℕ)) (words : ℕ) (w : MutBor Wheel)
      → Step K 𝓛 (‵ (fsep (memory κ x) (fsep (wheel κ' w) ftrue)) ∷ raw tokens ∷ Γ) G (raw tokens ∷ ‵ (fsep (memory κ x) (fsep (u64.own_val words (vint w64 words ∷ [])) (fsep (wheel κ' w) ftrue))) ∷ Γ) G
  takes t κ κ' x words w = step (λ s. move t (1 ∷ []) $ fsplit t $ move t (1 ∷ []) $ fsplit t $ drop t $ move t (1 ∷ 0 ∷ []) $ fjoin t $ s)

  pub given_up : K → (κ κ' : Lft) (x : MutBor (List ℕ)) (w : MutBor Wheel)
      → Step K 𝓛 (raw tokens ∷ ‵ (fsep (last_words x x.now) (fsep ftrue (fsep (last_wheel w w.now) ftrue))) ∷ Γ) G (‵ (fsep (memory κ x) (fsep (wheel κ' w) ftrue)) ∷ raw tokens ∷ Γ) G
  given_up t κ κ' x w = step (λ s. fsplit t $ gives_up t (named 0) κ (Array u32 838) x (mut_vals x) $ move t (1 ∷ []) $ fsplit t $ gives_up t (named 1) κ' T.the_row w (mut_vals w) $
      fjoin t $ nothing t $ fjoin t $ move t (1 ∷ 0 ∷ []) $ fjoin t $ move t (1 ∷ 0 ∷ []) $ s)

  pub had_back : K → (x : MutBor (List ℕ)) (w : MutBor Wheel) (m : List ℕ) (v : Wheel)
      → Step K 𝓛 (raw tokens ∷ ‵ (fsep (last_words x m) (fsep ftrue (fsep (last_wheel w v) ftrue))) ∷ Γ) G (‵ (fsep (last_words x m) (fsep (last_wheel w v) ftrue)) ∷ raw tokens ∷ Γ) G
  had_back t x w m v = step (λ s. fsplit t $ nothing t $ move t (0 ∷ 2 ∷ []) $ fjoin t $ move t (1 ∷ 0 ∷ []) $ fjoin t $ move t (1 ∷ 0 ∷ []) $ s)
