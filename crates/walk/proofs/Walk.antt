-- What every walk by hand over a `&mut S`, S a struct of plain data, has in common. In this order:
--     rooms                   all the locals of a function are allocated at once
--     free_at n               the local at entry n, which holds something, is freed
--     var n                   the local at entry n is read
--     no_token, token, untoken                        the tokens of a signature, as a call and `ends` take them
--     one_token, token_back, two_tokens, two_back     the same at one lifetime, and at two
--     Opened, opens_record, closes_record     a `&mut S` is opened, which gives the struct's one cell, written out, and its relation;
--                             and closed at another record
--     lends_record, record_back     a local that holds the record is lent by `&mut` for a lifetime that is made for it, and is back at
--                             the last value
--     calls_of                a call, at what its contract binds outside: its result, its last values and its tokens, with what it
--                             ensures as a plain fact
--     calls_plain             a call whose parameters are plain data and whose signature has no lifetime: what it takes is had for
--                             nothing, and what comes back is its result
--     returns_early           a test, and where it holds a return: each way goes on from the same context, knowing how the test came out
--     gives_up                a `&mut` that is still owned is given up, at what it leads to
--     told                    a result of a type whose relation tells its MIR value lands at that value, written out
--     and_nothing, first_and_plain, two_refs     what a call takes, of what is had: all that the function was handed; one borrow and
--                             plain data; two borrows
--     ends                    the walk ends: the tokens and what is had of the parameters, a result that is plain data, and what is
--                             ensured as a plain fact
--     proved                  from the walk to the function's own statement
-- `pub use` passes on what a walk cites of the kit, so that a walk's file has few lines of `use`. Not here: a loop, a slice, a branch but an early return.
-- Assumes `Logic`.

-- ---- what a walk cites of the kit, passed on
pub use mathlib.Core.Path.{◌≡◌, refl, ap}
pub use Prim.Native.Nat.{ℕ}
pub use mathlib.Core.List.{[], ◌∷◌, List}
pub use seplogic.Ra.Ura.{Ura}
pub use mir.Syntax.{named}
pub use mir.Val.{Val, vint, vptr, vbool}
pub use base.Logic.{SProp, ent, emp, id⊢, via, fst∗}
pub use base.Fml.{GName, Lft, Share, ftrue, flft}
pub use prog.Memory.{Memory}
pub use prog.Routine.{Routine}
pub use prog.Wp.{Heap, Calls, Loops, WpFn}
pub use ghost.Atoms.{Atoms, meaning}
use types.Logic.{Logic, sem}
pub use contract.Monad.{Fun}
pub use types.Kit.{‵, raw, ◌⊛◌, ◌$◌, ◌∵◌, !, qed, move, drop, split, join, fsplit, fjoin, use2}
pub use types.Run.{look, init, stop, hop, fld, from, load, lit, addr, bin, of_opd, and_then, no_more, land, assigns, returns, returns_within, enter, params1, pass1, pass0, free0, free1}
pub use types.Part.{agg, whole, sub, look_in, store_in}
pub use sound.WpLaws.{FmC}
pub use denote.RattleType.{owns}
pub use denote.Laws.{Is}
pub use denote.Plain.{uint_vals, uint_Tells, uint_Makes}
pub use denote.Ref.{Bor, MutBor, MutRef, shr_vals, mut_vals, mut_Tells}
pub use denote.Signature.{plain}
pub use denote.Steps.{nothing, owned}
pub use denote.Triple.Entry.{alive, on_entry}
pub use denote.Triple.Spec.{triple_of}
pub use denote.Triple.Statement.{Triple}
pub use denote.Triple.Table.{cited}
pub use denote.Triple.Walked.{Stays, stay_ref, gave_ref, stay_none, stay_dropped, walk_of, Goes-ref, Goes-gave_ref, Goes-none, Goes-dropped}
-- ---- what this file cites besides
use mathlib.Core.Path.{sym, subst}
use mathlib.Core.Bool.{Bool, not}
use lib.Dec.{T}
use Prim.Native.Nat.{zero}
use base.Fraction.{full_share}
use mir.Syntax.{Fn, Ty, Lifetime, Local, local, Place, place, Body as Code, Opd as Operand, copy, seq, skip, cond, call}
use base.Logic.{sep, comm∗, mono∗, mono_r, assoc', emp∗}
use base.Fml.{Fml, fsep, fres, flent, fobs, fauth, fobor, fat, froom, fdies}
use prog.Model.{Model}
use prog.Routine.{Callee, Env as Routines}
use prog.Wp.{Env, Closed, spot_of, Wp, after_seq}
use contract.Monad.{fact}
use contract.Lifetimes.{Lfts, Shares, AllOutlive}
use contract.Running.{Running, tables, tables_of}
use types.Kit.{Item, some, later, Goal, prop, runs, lands, allocs, frees, Post, post, any_q, Soaks, Seq, Step, step, ⋆, nth, del, pull, mean, keep, use0, use1, use3, pick, fpick, fpack, fsplit3, fjoin3, feq_i, suffices, frame, await, done}
use types.Run.{Opd, Opds, alloc1, alloc0, first, branches, skips}
use types.SemTy.{Body}
use types.Tokens.{lft_new, lft_end}
use sound.WpLaws.{fm_of, WpFn-mono}
use denote.RattleType.{RattleType, Denots, Valss, flat}
use denote.Laws.{Ises, Tells, Tellss, Spells, valss, Are, Makes, Makess, shows, owns_make}
use denote.Memory.{mem, cell_at, part_of}
use denote.Lend.{lends_ref, ref_back}
use denote.Signature.{Signature, type_at, types_at}
use denote.Steps.{only, opens, closes, peeks, heard}
use denote.Struct.Declared.{Declared, row, fields, shape}
use denote.Struct.Struct.{Plains, layout}
use denote.Struct.Steps.{spelt}
use denote.Struct.Laws as LL
use denote.Triple.Bound.{passed}
use denote.Triple.Call.{calls_at}
use denote.Triple.Clauses.{Clauses, Ended, Lasts, at_exit, lasts, closing}
use denote.Triple.Entry.{Args, Res}
use denote.Triple.Table.{entered}
use denote.Triple.Walked.{Fit, AllGo, has_of, on_exit, Ending, ends_at, walked, walk_Meets, says}

-- ---- a function's locals
abbrev pub Rooms : {M : Type 1} {𝓤 : Ura M} (K : Type 0) (𝓛 : Logic 𝓤) → List Local → (Env 𝓤 𝓛.H → Goal 𝓤 𝓛.H) → List (Item 𝓤) → Type 1
Rooms K 𝓛 [] Kt Γ = Seq K 𝓛 Γ (Kt [])
Rooms K 𝓛 (local τ h ∷ ls) Kt Γ = (b : ℕ) → Rooms K 𝓛 ls (λ E. Kt ((τ, b) ∷ E)) (‵ (froom τ b zero) ∷ ‵ (fdies τ b) ∷ Γ)

module _ {M : Type 1} {𝓤 : Ura M} {𝓛 : Logic 𝓤} {K : Type 0} where
  open 𝓛 use {H, A}

  all_rooms : K → (ls : List Local) (Kt : Env 𝓤 H → Goal 𝓤 H) (Γ : List (Item 𝓤)) → Rooms K 𝓛 ls Kt Γ → Seq K 𝓛 Γ (allocs ls Kt)
  all_rooms t [] Kt Γ s = alloc0 t $ s
  all_rooms t (local τ h ∷ ls) Kt Γ k = alloc1 t (λ b. all_rooms t ls (λ E. Kt ((τ, b) ∷ E)) (‵ (froom τ b zero) ∷ ‵ (fdies τ b) ∷ Γ) (k b))

  pub rooms : K → {ls : List Local} {Kt : Env 𝓤 H → Goal 𝓤 H} {Γ : List (Item 𝓤)} → Rooms K 𝓛 ls Kt Γ → Seq K 𝓛 Γ (allocs ls Kt)
  rooms t {ls} {Kt} {Γ} k = all_rooms t ls Kt Γ k

  pub free_at : K → (n : ℕ) {Γ : List (Item 𝓤)} {τ : Ty} {b : ℕ} {v : Val} {E : Env 𝓤 H} {g : Goal 𝓤 H} → nth 𝓛 n Γ ≡ ‵ (fat full_share τ b zero v) → nth 𝓛 n (del 𝓛 n Γ) ≡ ‵ (fdies τ b)
      → Step K 𝓛 (del 𝓛 n (del 𝓛 n Γ)) (frees E g) Γ (frees ((τ, b) ∷ E) g)
  free_at t n {Γ} {τ} {b} {v} {E} {g} e d = step (λ s. record {
    prf =
        via 𝓤 (sep 𝓤 (H.at full_share τ b zero v) (⋆ 𝓛 (del 𝓛 n Γ))) (subst (λ (j : Item 𝓤). ent 𝓤 (⋆ 𝓛 Γ) (sep 𝓤 (mean 𝓛 j) (⋆ 𝓛 (del 𝓛 n Γ)))) e (pull 𝓛 n Γ))
        (via 𝓤 (sep 𝓤 (H.room τ b zero) (sep 𝓤 (H.dies τ b) (⋆ 𝓛 (del 𝓛 n (del 𝓛 n Γ)))))
        (mono∗ 𝓤 (𝓛.laws.at_room τ b zero v) (subst (λ (j : Item 𝓤). ent 𝓤 (⋆ 𝓛 (del 𝓛 n Γ)) (sep 𝓤 (mean 𝓛 j) (⋆ 𝓛 (del 𝓛 n (del 𝓛 n Γ))))) d (pull 𝓛 n (del 𝓛 n Γ))))
        (via 𝓤 (sep 𝓤 (sep 𝓤 (H.room τ b zero) (H.dies τ b)) (⋆ 𝓛 (del 𝓛 n (del 𝓛 n Γ)))) (assoc' 𝓤 (H.room τ b zero) (H.dies τ b) (⋆ 𝓛 (del 𝓛 n (del 𝓛 n Γ)))) (mono_r 𝓤 (sep 𝓤 (H.room τ b zero) (H.dies τ b)) s.prf)));
  })

  -- a local that is read
  pub var : K → (n : ℕ) {Γ : List (Item 𝓤)} {E : Env 𝓤 H} {i : ℕ} {q : Share} {v : Val} → nth 𝓛 n Γ ≡ ‵ (fat q (spot_of 𝓤 H E i).0 (spot_of 𝓤 H E i).1 (spot_of 𝓤 H E i).2 v) → Opd K 𝓛 Γ E (copy (place i [])) v
  var t n e = load t (from t (stop t)) (look t n e)

  -- the tokens of a signature, last one first: `no_token`, and then `token` for each. `untoken` takes one off again
  pub no_token : K → {Γ : List (Item 𝓤)} {G : Goal 𝓤 H} → Step K 𝓛 (raw (emp 𝓤) ∷ Γ) G Γ G
  no_token t = use0 𝓛 (raw (emp 𝓤)) (id⊢ 𝓤 (emp 𝓤))

  pub token : K → {Γ : List (Item 𝓤)} {G : Goal 𝓤 H} {κ : Lft} {q : Share} {P : SProp 𝓤} → Step K 𝓛 (raw (sep 𝓤 (A.lft κ q) P) ∷ Γ) G (‵ (flft κ q) ∷ raw P ∷ Γ) G
  token t {κ = κ} {q} {P} = use2 𝓛 (raw (sep 𝓤 (A.lft κ q) P)) (id⊢ 𝓤 (sep 𝓤 (A.lft κ q) P))

  pub untoken : K → {Γ : List (Item 𝓤)} {G : Goal 𝓤 H} {κ : Lft} {q : Share} {P : SProp 𝓤} → Step K 𝓛 (‵ (flft κ q) ∷ raw P ∷ Γ) G (raw (sep 𝓤 (A.lft κ q) P) ∷ Γ) G
  untoken t {κ = κ} {q} {P} = step (λ s. use1 𝓛 (‵ (flft κ q) ⊛ raw P) (id⊢ 𝓤 (sep 𝓤 (A.lft κ q) P)) $ split t $ s)

  -- at one lifetime
  pub one_token : K → {Γ : List (Item 𝓤)} {G : Goal 𝓤 H} {κ : Lft} {q : Share} → Step K 𝓛 (raw (sep 𝓤 (A.lft κ q) (emp 𝓤)) ∷ Γ) G (‵ (flft κ q) ∷ Γ) G
  one_token t = step (λ s. no_token t $ move t (1 ∷ 0 ∷ []) $ token t $ s)

  pub token_back : K → {Γ : List (Item 𝓤)} {G : Goal 𝓤 H} {κ : Lft} {q : Share} → Step K 𝓛 (‵ (flft κ q) ∷ Γ) G (raw (sep 𝓤 (A.lft κ q) (emp 𝓤)) ∷ Γ) G
  token_back t {κ = κ} {q} = step (λ s. use1 𝓛 (‵ (flft κ q)) (fst∗ 𝓤 (A.lft κ q) (emp 𝓤)) $ s)

  -- at two
  pub two_tokens : K → {Γ : List (Item 𝓤)} {G : Goal 𝓤 H} {κ κ' : Lft} {q q' : Share} → Step K 𝓛 (raw (sep 𝓤 (A.lft κ q) (sep 𝓤 (A.lft κ' q') (emp 𝓤))) ∷ Γ) G (‵ (flft κ q) ∷ ‵ (flft κ' q') ∷ Γ) G
  two_tokens t = step (λ s. move t (1 ∷ []) $ one_token t $ move t (1 ∷ 0 ∷ []) $ token t $ s)

  pub two_back : K → {Γ : List (Item 𝓤)} {G : Goal 𝓤 H} {κ κ' : Lft} {q q' : Share} → Step K 𝓛 (‵ (flft κ q) ∷ ‵ (flft κ' q') ∷ Γ) G (raw (sep 𝓤 (A.lft κ q) (sep 𝓤 (A.lft κ' q') (emp 𝓤))) ∷ Γ) G
  two_back t = step (λ s. untoken t $ move t (1 ∷ []) $ token_back t $ move t (1 ∷ 0 ∷ []) $ s)

  -- a test, and where it holds a return
  pub returns_early : K → {Γ : List (Item 𝓤)} {E : Env 𝓤 H} {C : Calls 𝓤 H} {Λ : Loops 𝓤 H} {q : Post 𝓤 H} {c : Operand} {a b : Code} {y : Bool} → Opd K 𝓛 Γ E c (vbool y)
      → (T y → Seq K 𝓛 Γ (runs C Λ E a (any_q (after_seq 𝓤 H (Wp 𝓤 H C Λ E b (post 𝓤 H q)) (post 𝓤 H q))))) → (T (not y) → Seq K 𝓛 Γ (runs C Λ E b q)) → Seq K 𝓛 Γ (runs C Λ E (seq (cond c a skip) b) q)
  returns_early t o early late = first t $ branches t o early (λ z. skips t $ record { prf = (late z).prf })

  -- a `&mut` that is still owned is given up
  pub gives_up : K → {Γ : List (Item 𝓤)} {G : Goal 𝓤 H} (ℓ : Lifetime) (κ : Lft) (R : RattleType) (x : MutBor R.Denot) (vs : List Val) → Step K 𝓛 (‵ (fres x.ghost_name (R.coded.code x.now)) ∷ Γ) G (‵ ((MutRef ℓ κ R).own_val x vs) ∷ Γ) G
  gives_up t ℓ κ R x vs = step (λ s. fsplit3 t $ move t (1 ∷ []) $ use1 𝓛 (‵ (fres x.ghost_name (R.coded.code x.now))) (𝓛.names.obs-res x.ghost_name (R.coded.code x.now)) $ move t (1 ∷ 2 ∷ []) $ drop t $ drop t $ s)

-- ---- a `&mut S`
module _ (D : Declared) (L : LL.Laws D) where
  -- what is left of the borrow while it is open
  abbrev pub Opened : Lft → Share → ℕ → ℕ → GName → D.D → Fml
  Opened κ q b o γ h = fsep (fobor κ q (Body (mem (row D)) b o γ)) (fsep (fobs γ ((row D).coded.code h)) (fauth γ ((row D).coded.code h)))

  abbrev pub mut_at : ℕ → ℕ → GName → D.D → MutBor D.D
  mut_at b o γ h = record { ref_ptr = (b, o); ghost_name = γ; now = h }

  module _ {M : Type 1} {𝓤 : Ura M} {𝓛 : Logic 𝓤} {K : Type 0} {Γ : List (Item 𝓤)} {G : Goal 𝓤 𝓛.H} where
    pub opens_record : K → Soaks G → (ℓ : Lifetime) {κ : Lft} {q : Share} (b o : ℕ) (γ : GName) (h : D.D)
        → (Is (row D) h (LL.vals D L h) → Seq K 𝓛 (‵ (cell_at full_share (row D).mir (LL.vals D L h) b o) ∷ ‵ (Opened κ q b o γ h) ∷ Γ) G)
        → Seq K 𝓛 (‵ ((MutRef ℓ κ (row D)).own_val (mut_at b o γ h) (vptr b o ∷ [])) ∷ ‵ (flft κ q) ∷ Γ) G
    opens_record t z ℓ b o γ h k =
        fsplit3 t $ drop t $ opens t z (row D) {h = h} b o (λ vs. spelt t (row D) (Is (row D)) (shows 𝓛 (row D)) (LL.vals D L) (LL.tells D L) full_share h vs b o $
        move t (1 ∷ []) $ peeks t (row D) (Is (row D)) (shows 𝓛 (row D)) h (LL.vals D L h) (λ was. drop t $ move t (1 ∷ 2 ∷ 3 ∷ []) $ fjoin3 t $ move t (1 ∷ 0 ∷ []) $ k was))

    pub closes_record : K → Soaks G → Plains (fields D) → (ℓ : Lifetime) {κ : Lft} {q : Share} (b o : ℕ) (γ : GName) (h h' : D.D) → Is (row D) h' (LL.vals D L h')
        → Step K 𝓛 (‵ ((MutRef ℓ κ (row D)).own_val (mut_at b o γ h') (vptr b o ∷ [])) ∷ ‵ (flft κ q) ∷ Γ) G (‵ (cell_at full_share (row D).mir (LL.vals D L h') b o) ∷ ‵ (Opened κ q b o γ h) ∷ Γ) G
    closes_record t z pl ℓ b o γ h h' is = step (λ s. owned t (row D) (Is (row D)) (LL.makes D pl 𝓛) h' (LL.vals D L h') is $ move t (2 ∷ []) $ fsplit3 t $ move t (4 ∷ 3 ∷ 0 ∷ 1 ∷ 2 ∷ []) $
        closes t z (row D) h' (LL.vals D L h') b o $ feq_i t (List Val) (vptr b o ∷ []) (vptr b o ∷ []) refl $ fjoin3 t $ s)

    -- a local that holds the record is lent for a lifetime ν that is made for it
    pub lends_record : K → Soaks G → Plains (fields D) → (ℓ : Lifetime) (h : D.D) (l : ℕ) → Is (row D) h (LL.vals D L h)
        → ((ν : ℕ) (γ : GName) → Seq K 𝓛 (‵ (flft (ν ∷ []) full_share) ∷ ‵ ((MutRef ℓ (ν ∷ []) (row D)).own_val (mut_at l zero γ h) (vptr l zero ∷ [])) ∷ ‵ (flent (ν ∷ []) (Body (mem (row D)) l zero γ)) ∷ Γ) G)
        → Seq K 𝓛 (‵ (fat full_share (layout (shape D)) l zero (LL.val D L h)) ∷ Γ) G
    unfolding part_of
    lends_record t z pl ℓ h l is k =
        use1 𝓛 (‵ (cell_at full_share (row D).mir (LL.vals D L h) l zero)) (𝓛.laws.at_raw full_share (layout (shape D)) l zero (LL.val D L h)) $ owned t (row D) (Is (row D)) (LL.makes D pl 𝓛) h (LL.vals D L h) is $ move t (1 ∷ 0 ∷ []) $ fjoin t $
        fpack t (List Val) (λ us. fsep (cell_at full_share (row D).mir us l zero) ((row D).own_val h us)) (LL.vals D L h) $ lft_new t z (λ ν. move t (1 ∷ []) $
        use1 𝓛 (later (some (λ (γ : GName). ‵ ((MutRef ℓ (ν ∷ []) (row D)).own_val (mut_at l zero γ h) (vptr l zero ∷ [])) ⊛ ‵ (flent (ν ∷ []) (Body (mem (row D)) l zero γ))))) (lends_ref 𝓛 (row D) ℓ (ν ∷ []) h l zero) $ await t z $ pick t (λ γ. split t $ move t (2 ∷ []) $ k ν γ))

    -- and it is back, at the last value of the reference
    pub record_back : K → Soaks G → (h : D.D) (ν l : ℕ) (γ : GName) → (Is (row D) h (LL.vals D L h) → Seq K 𝓛 (‵ (fat full_share (layout (shape D)) l zero (LL.val D L h)) ∷ Γ) G)
        → Seq K 𝓛 (‵ (flft (ν ∷ []) full_share) ∷ ‵ (flent (ν ∷ []) (Body (mem (row D)) l zero γ)) ∷ ‵ (fres γ ((row D).coded.code h)) ∷ Γ) G
    unfolding part_of
    record_back t z h ν l γ k =
        lft_end t z $ use3 𝓛 (later (‵ ((mem (row D)).own_at h l zero))) (ref_back 𝓛 (row D) (ν ∷ []) γ h l zero) $ await t z $ fpick t (λ vs. fsplit t $ spelt t (row D) (Is (row D)) (shows 𝓛 (row D)) (LL.vals D L) (LL.tells D L) full_share h vs l zero $
        move t (1 ∷ []) $ peeks t (row D) (Is (row D)) (shows 𝓛 (row D)) h (LL.vals D L h) (λ is. drop t $ use1 𝓛 (‵ (fat full_share (layout (shape D)) l zero (LL.val D L h))) (𝓛.laws.raw_at full_share (layout (shape D)) l zero (LL.val D L h)) $ k is))

-- ---- a call
module _ {M : Type 1} {𝓤 : Ura M} {𝓛 : Logic 𝓤} {K : Type 0} {Γ : List (Item 𝓤)} {E : Env 𝓤 𝓛.H} {C : Calls 𝓤 𝓛.H} {Λ : Loops 𝓤 𝓛.H} {p : Post 𝓤 𝓛.H} {f : Callee} {xs : List Operand} {d : Place} {rest : Code} where
  open 𝓛 use {H}

  pub calls_of : K → FmC 𝓤 H 𝓛.laws C → (T : Ended) (c : Clauses 𝓤 T) → Triple 𝓤 (C f) (triple_of 𝓛 T.signature (closing 𝓛 T c)) → (y : (triple_of 𝓛 T.signature (closing 𝓛 T c)).Ghost)
      → Opds K 𝓛 (raw ((triple_of 𝓛 T.signature (closing 𝓛 T c)).pre y) ∷ Γ) E xs (passed 𝓛 T.signature y.0)
      → (φ : Res T.signature y.0.0 → Lasts T y.0.0 y.0.3 → Type 0) → ((r : Res T.signature y.0.0) (ws : Lasts T y.0.0 y.0.3) → ent 𝓤 ((c y.0.0 y.0.3).ensures y.1 r (at_exit T y.0.0 y.0.3 ws)) (fact 𝓤 (φ r ws)))
      → ((v : Val) (r : Res T.signature y.0.0) (ws : Lasts T y.0.0 y.0.3) → φ r ws
      → Seq K 𝓛 (‵ ((type_at T.signature.result y.0.0).own_val r (v ∷ [])) ∷ ‵ (lasts T y.0.0 y.0.3 ws) ∷ raw (alive 𝓛 T.signature y.0.0 y.0.1) ∷ Γ) (lands C Λ E d v rest p))
      → Seq K 𝓛 (raw ((triple_of 𝓛 T.signature (closing 𝓛 T c)).pre y) ∷ Γ) (runs C Λ E (seq (call f xs d) rest) p)
  calls_of t fm T c known y os φ sure k =
      calls_at t fm (triple_of 𝓛 T.signature (closing 𝓛 T c)) known y os (λ v.
      use1 𝓛 (later (some (λ (r : Res T.signature y.0.0). (raw (alive 𝓛 T.signature y.0.0 y.0.1) ⊛ ‵ ((type_at T.signature.result y.0.0).own_val r (v ∷ [])))
      ⊛ some (λ (ws : Lasts T y.0.0 y.0.3). ‵ (lasts T y.0.0 y.0.3 ws) ⊛ raw ((c y.0.0 y.0.3).ensures y.1 r (at_exit T y.0.0 y.0.3 ws)))))) (id⊢ 𝓤 _) $ await t tt $ pick t (λ r.
      split t $ move t (1 ∷ []) $ pick t (λ ws. split t $ move t (1 ∷ []) $ use1 𝓛 (raw (fact 𝓤 (φ r ws))) (sure r ws) $ heard t (φ r ws) (λ e.
      -- [the last values; the tokens and the result; …]
      move t (1 ∷ []) $ split t $ move t (1 ∷ 2 ∷ 0 ∷ []) $ k v r ws e))))

  pub calls_plain : K → FmC 𝓤 H 𝓛.laws C → (T : Ended) (c : Clauses 𝓤 T) → Triple 𝓤 (C f) (triple_of 𝓛 T.signature (closing 𝓛 T c)) → (y : (triple_of 𝓛 T.signature (closing 𝓛 T c)).Ghost)
      → ent 𝓤 (emp 𝓤) (alive 𝓛 T.signature y.0.0 y.0.1) → ent 𝓤 (emp 𝓤) ((c y.0.0 y.0.3).requires y.1)
      → Makess 𝓛 (types_at T.signature.params y.0.0) (Ises (types_at T.signature.params y.0.0)) → Are (types_at T.signature.params y.0.0) (Ises (types_at T.signature.params y.0.0)) y.0.3 y.0.4
      → Opds K 𝓛 (raw ((triple_of 𝓛 T.signature (closing 𝓛 T c)).pre y) ∷ Γ) E xs (passed 𝓛 T.signature y.0)
      → (φ : Res T.signature y.0.0 → Type 0) → ((r : Res T.signature y.0.0) (ws : Lasts T y.0.0 y.0.3) → ent 𝓤 ((c y.0.0 y.0.3).ensures y.1 r (at_exit T y.0.0 y.0.3 ws)) (fact 𝓤 (φ r)))
      → ((v : Val) (r : Res T.signature y.0.0) → φ r → Seq K 𝓛 (‵ ((type_at T.signature.result y.0.0).own_val r (v ∷ [])) ∷ Γ) (lands C Λ E d v rest p))
      → Seq K 𝓛 Γ (runs C Λ E (seq (call f xs d) rest) p)
  calls_plain t fm T c known y free asks mk are os φ sure k =
      use0 𝓛 (raw ((triple_of 𝓛 T.signature (closing 𝓛 T c)).pre y))
      (via 𝓤 (sep 𝓤 (emp 𝓤) (emp 𝓤)) (emp∗ 𝓤 (emp 𝓤)) (mono∗ 𝓤 (via 𝓤 (sep 𝓤 (emp 𝓤) (emp 𝓤)) (emp∗ 𝓤 (emp 𝓤)) (mono∗ 𝓤 free (owns_make 𝓛 (types_at T.signature.params y.0.0) (Ises (types_at T.signature.params y.0.0)) mk y.0.3 y.0.4 are))) asks)) $
      calls_of t fm T c known y os (λ r ws. φ r) sure (λ v r ws e. move t (1 ∷ 2 ∷ []) $ drop t $ drop t $ k v r e)

module _ {M : Type 1} {𝓤 : Ura M} {𝓛 : Logic 𝓤} {K : Type 0} {Γ : List (Item 𝓤)} {E : Env 𝓤 𝓛.H} {C : Calls 𝓤 𝓛.H} {Λ : Loops 𝓤 𝓛.H} {p : Post 𝓤 𝓛.H} {d : Place} {rest : Code} where
  pub told : K → (R : RattleType) (val : R.Denot → Val) → Tells R (Is R) (λ r. val r ∷ []) → (r : R.Denot) (v : Val) → (Is R r (val r ∷ []) → Seq K 𝓛 Γ (lands C Λ E d (val r) rest p)) → Seq K 𝓛 (‵ (R.own_val r (v ∷ [])) ∷ Γ) (lands C Λ E d v rest p)
  told t R val tl r v k = peeks t R (Is R) (shows 𝓛 R) r (v ∷ []) (λ is. drop t $
      subst (λ (u : Val). Seq K 𝓛 Γ (lands C Λ E d u rest p)) (sym (ap only (tl r (v ∷ []) is))) (k (subst (Is R r) (tl r (v ∷ []) is) is)))

-- what a call takes that is all that the function itself was handed
pub and_nothing : {M : Type 1} (𝓤 : Ura M) (P : SProp 𝓤) → ent 𝓤 P (sep 𝓤 P (emp 𝓤))
and_nothing 𝓤 P = via 𝓤 (sep 𝓤 (emp 𝓤) P) (emp∗ 𝓤 P) (comm∗ 𝓤 (emp 𝓤) P)

-- what a call takes whose first parameter is had, with the token of its one lifetime, and whose others are plain data
pub first_and_plain : {M : Type 1} {𝓤 : Ura M} (𝓛 : Logic 𝓤) (κ : Lft) (q : Share) (O : Fml) (Rs : List RattleType) → Makess 𝓛 Rs (Ises Rs) → (a : Denots Rs) (vss : Valss Rs) → Are Rs (Ises Rs) a vss
    → ent 𝓤 (sep 𝓤 (𝓛.A.lft κ q) (sem 𝓛 O)) (sep 𝓤 (sep 𝓤 (sep 𝓤 (𝓛.A.lft κ q) (emp 𝓤)) (sep 𝓤 (sem 𝓛 O) (sem 𝓛 (owns Rs a vss)))) (emp 𝓤))
first_and_plain {𝓤 = 𝓤} 𝓛 κ q O Rs mk a vss are =
    via 𝓤 (sep 𝓤 (sep 𝓤 (𝓛.A.lft κ q) (emp 𝓤)) (sep 𝓤 (sem 𝓛 O) (sem 𝓛 (owns Rs a vss))))
    (mono∗ 𝓤 (and_nothing 𝓤 (𝓛.A.lft κ q)) (via 𝓤 (sep 𝓤 (sem 𝓛 O) (emp 𝓤)) (and_nothing 𝓤 (sem 𝓛 O)) (mono_r 𝓤 (sem 𝓛 O) (owns_make 𝓛 Rs (Ises Rs) mk a vss are))))
    (and_nothing 𝓤 (sep 𝓤 (sep 𝓤 (𝓛.A.lft κ q) (emp 𝓤)) (sep 𝓤 (sem 𝓛 O) (sem 𝓛 (owns Rs a vss)))))

-- what a call takes of two parameters at two lifetimes, with their tokens
pub two_refs : {M : Type 1} {𝓤 : Ura M} (𝓛 : Logic 𝓤) (κ κ' : Lft) (q q' : Share) (O O' : Fml)
    → ent 𝓤 (sep 𝓤 (sep 𝓤 (𝓛.A.lft κ q) (𝓛.A.lft κ' q')) (sep 𝓤 (sem 𝓛 O) (sem 𝓛 O'))) (sep 𝓤 (sep 𝓤 (sep 𝓤 (𝓛.A.lft κ q) (sep 𝓤 (𝓛.A.lft κ' q') (emp 𝓤))) (sep 𝓤 (sem 𝓛 O) (sep 𝓤 (sem 𝓛 O') (emp 𝓤)))) (emp 𝓤))
two_refs 𝓛 κ κ' q q' O O' =
    qed 𝓛 ((‵ (flft κ q) ⊛ ‵ (flft κ' q')) ∷ (‵ O ⊛ ‵ O') ∷ []) ∵ split ! $ move ! (2 ∷ []) $ split ! $ nothing ! $ move ! (2 ∷ 0 ∷ []) $ join ! $ move ! (1 ∷ 0 ∷ []) $ join ! $
    nothing ! $ move ! (3 ∷ 0 ∷ []) $ join ! $ move ! (2 ∷ 0 ∷ []) $ join ! $ join ! $ frame ! $ nothing ! $ done !

-- ---- the end of a walk
module _ {M : Type 1} {𝓤 : Ura M} {𝓛 : Logic 𝓤} {K : Type 0} {Γ : List (Item 𝓤)} where
  pub ends : K → (T : Ended) (hs : Stays T.signature.params T.kept) (c : Clauses 𝓤 T) (y : (walk_of 𝓛 T hs c).Ghost) (v : Val) (r : Res T.signature y.0.0) (ws : Lasts T y.0.0 y.0.3) → Fit T hs y.0.0 y.0.3 ws
      → (φ : Type 0) → ent 𝓤 (fact 𝓤 φ) ((c y.0.0 y.0.3).ensures y.1 r (at_exit T y.0.0 y.0.3 ws)) → φ
      → Makes 𝓛 (type_at T.signature.result y.0.0) (Is (type_at T.signature.result y.0.0)) → Is (type_at T.signature.result y.0.0) r (v ∷ [])
      → Seq K 𝓛 (raw (alive 𝓛 T.signature y.0.0 y.0.1) ∷ ‵ (has_of y.0.0 T.signature.params T.kept hs y.0.3 ws y.0.4) ∷ Γ) (prop ((walk_of 𝓛 T hs c).post y v))
  ends t T hs c y v r ws fits φ sure x mk is =
      suffices t (Ending 𝓛 T hs c y v r ws) (ends_at 𝓛 T hs c y v r ws fits) $
      suffices t (sep 𝓤 (on_exit 𝓛 T hs y.0.0 y.0.1 y.0.4 v r y.0.3 ws) (fact 𝓤 φ)) (mono_r 𝓤 (on_exit 𝓛 T hs y.0.0 y.0.1 y.0.4 v r y.0.3 ws) sure) $ says t x $
      frame t $ frame t $ owned t (type_at T.signature.result y.0.0) (Is (type_at T.signature.result y.0.0)) mk r (v ∷ []) is $ keep t (0 ∷ []) $ done t

-- ---- from the walk to the statement
module _ {M : Type 1} {𝓤 : Ura M} (𝓛 : Logic 𝓤) (𝓜 : Model 𝓤 𝓛.H) (𝓡 : Running 𝓤 𝓛.H 𝓜) (T : Ended) (hs : Stays T.signature.params T.kept) (c : Clauses 𝓤 T) (env : Routines) (key : Callee) (F : Fn) where
  open 𝓛 use {H}

  abbrev S : Signature
  S = T.signature

  abbrev C : Calls 𝓤 H
  C = (tables 𝓤 H 𝓜 𝓡 env).C

  abbrev Λ : Loops 𝓤 H
  Λ = (tables 𝓤 H 𝓜 𝓡 env).Λ

  pub proved : Closed 𝓤 H C Λ key F → AllGo 𝓛 S.lifetimes S.params T.kept hs
      → (sp : (κs : Lfts S.lifetimes) → Spells (types_at S.params κs)) → ((κs : Lfts S.lifetimes) → Tellss (types_at S.params κs) (Ises (types_at S.params κs)) (sp κs))
      → (FmC 𝓤 H 𝓛.laws C → (κs : Lfts S.lifetimes) (qs : Shares S.lifetimes) (bounds : AllOutlive S.lifetimes S.outlives κs) (a : Args S κs) (g : (c κs a).ghost)
      → Are (types_at S.params κs) (Ises (types_at S.params κs)) a (valss (types_at S.params κs) (sp κs) a)
      → ent 𝓤 (sep 𝓤 (on_entry 𝓛 S κs qs a (valss (types_at S.params κs) (sp κs) a)) ((c κs a).requires g))
      (WpFn 𝓤 H C Λ F (flat (types_at S.params κs) (valss (types_at S.params κs) (sp κs) a)) ((walk_of 𝓛 T hs c).post ((κs, qs, bounds, a, valss (types_at S.params κs) (sp κs) a), g))))
      → Triple 𝓤 (C key) (triple_of 𝓛 S (closing 𝓛 T c))
  unfolding tables_of
  proved closed gs sp tl walk =
      entered 𝓤 H (triple_of 𝓛 S (closing 𝓛 T c)) C Λ key F closed
      (walk_Meets 𝓛 T hs gs c (WpFn 𝓤 H C Λ F) (WpFn-mono 𝓤 H 𝓛.laws (tables_of 𝓤 H 𝓜 (tables 𝓤 H 𝓜 𝓡 env)) F)
      (walked 𝓛 T hs c (WpFn 𝓤 H C Λ F) sp tl (walk (fm_of 𝓤 H 𝓛.laws (tables_of 𝓤 H 𝓜 (tables 𝓤 H 𝓜 𝓡 env))))))
