-- `desk::send` meets its contract. Assumes nothing.
use Rattle.std.proofs.Common.{◌≡◌, ℕ, sym, refl, ◌∙◌, arith}
use Rattle.desk.specs.View.{the_rest}
use Rattle.desk.proofs.Sends.{send_none, send_some, found_unit}
use Rattle.desk.proofs.send.Goals as goal

pub invariant_of-launch : goal.invariant_of-launch
invariant_of-launch c = rw c.from.ensures (found_unit c.args.mem.now c.args.mark c.in-Some.field-0.unit c.in-Some.field-0.looked (sym c.rotate.ensures ∙ c.in-Some.is)).0

pub launch-q-requires : goal.launch-q-requires
launch-q-requires c = rw c.from.ensures (found_unit c.args.mem.now c.args.mark c.in-Some.field-0.unit c.in-Some.field-0.looked (sym c.rotate.ensures ∙ c.in-Some.is)).1

pub returns-in-None : goal.returns-in-None
returns-in-None c = record {
  does = λ given. send_none c.args.mem.now (the_rest c.args.clock c.args.mark given) (omega (arith, c.length_of.ensures)) (sym c.rotate.ensures ∙ c.in-None.is);
  idle = λ n e. refl;
}

pub returns-in-Some : goal.returns-in-Some
returns-in-Some c = rw (c.launch-q.ensures.0, c.launch-q.ensures.1, c.from.ensures)
    (record { does = λ given. send_some c.args.mem.now (the_rest c.args.clock c.args.mark given) c.in-Some.field-0.unit c.in-Some.field-0.looked (omega (arith, c.length_of.ensures)) (sym c.rotate.ensures ∙ c.in-Some.is); idle = λ n e. let y : ◌≡◌ {A = ℕ} 0 1 = cc in absurd (omega arith) })
