-- Calls made one after the other do what `run` does, and so demand 3 holds of the desk. Assumes nothing.
use Rattle.std.proofs.Common.{◌≡◌, ℕ, List, ◌∷◌, sym, refl, ap, ◌∙◌, subst}
use Rattle.board.specs.Plain.{Each}
use Rattle.board.specs.Board.{fresh}
use Rattle.board.specs.Answers.{Answer}
use Rattle.board.specs.Calls.{Call, step, run}
use Rattle.board.specs.Demand3.{Accounted, Freezes, NotSentFor, SameButFreeze, SameRecords, thinned}
use Rattle.board.proofs.Demand3.{demand3}
use Rattle.desk.specs.View.{Rest, view, Valid}
use Rattle.desk.specs.Session.{Session, over, after, start, ran, Desk}
use Rattle.desk.specs.Promise.{Fresh}

session_valid : {m' : List ℕ} {r' : Rest} {m : List ℕ} {r : Rest} {calls : List Call} {answers : List Answer} {blocks : List (List ℕ)} → Valid m r → Session m' r' m r calls answers blocks → Valid m' r'
session_valid v over = v
session_valid v (after m n r s c a lent calls answers blocks d more) = session_valid (d.valid v) more

session_runs : {m' : List ℕ} {r' : Rest} {m : List ℕ} {r : Rest} {calls : List Call} {answers : List Answer} {blocks : List (List ℕ)} → Valid m r → Session m' r' m r calls answers blocks → ran m' r' answers blocks ≡ run (view m r) calls
unfolding run
session_runs v over = refl
session_runs v (after m n r s c a lent calls answers blocks d more) =
    let e = session_runs (d.valid v) more in
    let k : ran _ _ answers blocks ≡ run (step (view m r) c).board calls = e ∙ ap (λ b. run b calls) (d.board v) in
    λ i. record { board = (k i).board; answers = d.says v i ∷ (k i).answers; blocks = d.lent v i ∷ (k i).blocks }

fresh_runs : {m m' : List ℕ} {r' : Rest} {calls : List Call} {answers : List Answer} {blocks : List (List ℕ)} → Fresh m → Session m' r' m start calls answers blocks → ran m' r' answers blocks ≡ run fresh calls
fresh_runs {calls = calls} f s = session_runs f.valid s ∙ ap (λ b. run b calls) f.board

pub desk : Desk
desk = record {
  runs = fresh_runs;
  stays_valid = λ f s. session_valid f.valid s;
  one_answer = λ v d d'. d.says v ∙ sym (d'.says v);
  one_block = λ v d d'. d.lent v ∙ sym (d'.lent v);
  one_board = λ v d d'. d.board v ∙ sym (d'.board v);
  accounted = λ {calls = calls} f s. subst Accounted (sym (fresh_runs f s)) (demand3.accounted calls);
  quiet = λ {earlier = earlier} {later = later} {c = c} u f before freezes d more released.
      let e = fresh_runs f before in
      let v = session_valid f.valid before in
      let b = (run fresh earlier).board in
      let quiet = demand3.quiet earlier u c later (subst (λ x. Freezes x u c) (ap (λ x. x.board) e) freezes) released in
      subst (Each (NotSentFor u))
      (sym (ap (λ x. x.answers) (session_runs (d.valid v) more ∙ ap (λ x. run x later) (d.board v ∙ ap (λ x. (step x c).board) (ap (λ x. x.board) e)))))
      quiet;
  freeze_alone = λ {m} {r = r} u v d. subst (SameButFreeze u (view m r)) (sym (d.board v)) (demand3.freeze_alone (view m r) u);
  release_alone = λ {m} {r = r} u v d. subst (SameButFreeze u (view m r)) (sym (d.board v)) (demand3.release_alone (view m r) u);
  event_alone = λ {m} {r = r} t e moved x u v at other d. subst (SameRecords u (view m r)) (sym (d.board v)) (demand3.event_alone (view m r) t e moved x u at other);
  reset_alone = λ {m} {r = r} u v idle d. subst (SameRecords u (view m r)) (sym (d.board v)) (demand3.reset_alone (view m r) u idle);
  same_answer = λ {m} {r = r} v d. demand3.same_answer (view m r) ∙ sym (d.says v);
  same_pick = λ {m} {r = r} v d. demand3.same_pick (view m r) ∙ ap thinned (sym (d.board v));
}
