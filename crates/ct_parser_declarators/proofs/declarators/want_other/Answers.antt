use Rattle.std.specs.Prelude.{Option}
use Rattle.std.proofs.Common.{◌≡◌, Bool, if◌then◌else◌, [], Some, sym, subst, ap, ◌∙◌}
use Rattle.std.proofs.lemmas.Result.{IfOk-weaker}
use Rattle.ct_syntax.specs.Words.{Text, Sign}
use Rattle.ct_parser_parts.specs.Parts.{parts_built}
use Rattle.ct_grammar_machine.specs.Frames.{Qualifying}
use Rattle.ct_grammar_machine.specs.Steps as s
use Rattle.ct_parser_state.specs.Code.{PartStep, Stepped, scope, stack, kind_of}
use Rattle.ct_parser_state.specs.declared.frames.Mode.{Mode}
use Rattle.ct_parser_declarators.proofs.declarators.want_other.Goals as goal

pub returns : goal.returns
returns c =
    let none : PartStep = s.no_name parts_built (scope c.args.state.now) (stack c.args.state.now) (kind_of c.args.purpose) (Sign c.args.mark) in
    let chosen : Bool → PartStep = λ z. if z then Some (scope c.args.state.now, stack c.args.state.now, Qualifying (kind_of c.args.purpose) []) else none in
    let plain : chosen (s.is_star c.args.mark) ≡ none = ap chosen (sym c.is_star.ensures ∙ c.if-is_star.false) in
    IfOk-weaker c.no_name.result (λ (r : Option Mode). (text : Text) → Stepped c.no_name.new.state r none) (λ (r : Option Mode). Stepped c.no_name.new.state r (chosen (s.is_star c.args.mark)))
    (λ r h. subst (λ (z : PartStep). Stepped c.no_name.new.state r z) (sym plain) (h []))
    c.no_name.ensures
