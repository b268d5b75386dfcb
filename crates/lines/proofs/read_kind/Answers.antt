-- `lines::read_kind` meets its contract. Assumes nothing.
use mathlib.Core.Path.{◌≡◌, sym, ap, ◌∙◌}
use native.Mathlib.Omega.{arith}
use Rattle.std.proofs.Common.{rules}
use Rattle.std.specs.Prelude.{option_and_then}
use Rattle.lines.specs.Record.{kind, named}
use Rattle.lines.specs.Text.{code}
use Rattle.lines.proofs.Texts.{kind_code}
use Rattle.lines.proofs.read_kind.Goals as goal

pub returns-in_default : goal.returns-in_default
returns-in_default c =
    let e : c.and_then.result ≡ option_and_then named c.read_code.result = search rules in
    let h : kind c.args.s.now ≡ option_and_then named (code c.args.s.now) = kind_code _ (λ l e. grind arith) (λ l e. grind arith) in
    e ∙ ap (option_and_then named) c.read_code.ensures ∙ sym h
