use Rattle.std.proofs.Common.{IfOk, subst, refl}
use Rattle.ct_parser_state.specs.Code.{PartStep, Stepped, entries, frames}
use Rattle.ct_parser_state.specs.Terminals.{word_of}
use Rattle.ct_parser_state.specs.declared.frames.BodyFrame.TheVariants.{Switch}
use Rattle.ct_syntax.specs.Words.{Word}
use Rattle.ct_parser_statements.proofs.Begins.{switch_pushed}
use Rattle.ct_parser_statements.proofs.statements.switch_part.Goals as goal

pub returns : goal.returns
returns c =
    let x : Word = word_of c.args.terminal c.args.token.now.text in
    subst (λ (z : PartStep). IfOk c.labelled_part.result (λ r. Stepped c.labelled_part.new.state r z)) (switch_pushed (entries c.args.state.now) (entries c.push.new.self) (frames c.args.state.now) (frames c.push.new.self) (Switch c.args.at c.args.value c.args.brace c.args.body) x refl c.in_ok-push.ensures.names c.in_ok-push.ensures.frames) c.labelled_part.ensures
