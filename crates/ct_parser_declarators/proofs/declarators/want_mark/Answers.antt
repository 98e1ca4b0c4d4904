use Rattle.std.specs.Prelude.{IfOk}
use Rattle.std.proofs.Common.{sym, subst, ◌∙◌}
use Rattle.ct_parser_state.specs.Code.{PartStep, Stepped, scope, stack, kind_of}
use Rattle.ct_parser_declarators.proofs.Others.{wanted_open, wanted_other}
use Rattle.ct_parser_declarators.proofs.declarators.want_mark.Goals as goal

pub returns-then-opens : goal.returns-then-opens
returns-then-opens c = wanted_open (scope c.args.state.now) (stack c.args.state.now) (kind_of c.args.purpose) c.args.mark (sym c.opens.ensures ∙ c.if-opens.true)

pub returns : goal.returns
returns c =
    subst (λ (z : PartStep). IfOk c.want_other.result (λ r. Stepped c.want_other.new.state r z))
    (sym (wanted_other (scope c.args.state.now) (stack c.args.state.now) (kind_of c.args.purpose) c.args.mark (sym c.opens.ensures ∙ c.if-opens.false)))
    c.want_other.ensures
