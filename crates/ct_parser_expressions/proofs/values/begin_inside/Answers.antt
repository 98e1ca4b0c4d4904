use Rattle.std.specs.Prelude.{IfOk}
use Rattle.std.proofs.Common.{sym, subst}
use Rattle.ct_parser_state.specs.Code.{PartStep, Stepped, entries, frames, outside}
use Rattle.ct_parser_state.specs.Terminals.{word_of}
use Rattle.ct_parser_expressions.proofs.Within.{within_other, within_sizeof}
use Rattle.ct_parser_expressions.proofs.values.begin_inside.Goals as goal

pub returns-in-Some-sizeof_place : goal.returns-in-Some-sizeof_place
returns-in-Some-sizeof_place c =
    subst (λ (z : PartStep). IfOk c.begin_sizeof.result (λ r. Stepped c.begin_sizeof.new.state r z))
    (sym (within_sizeof (entries c.args.state.now) (frames c.args.state.now) c.in-Some.frame (entries c.pop.new.self) (frames c.pop.new.self) (word_of c.args.terminal c.args.token.now.text) c.in-Some-sizeof_place.place c.in-Some.ensures.frames c.pop.ensures.names c.in-Some-sizeof_place.ensures))
    c.begin_sizeof.ensures

pub returns-in-None : goal.returns-in-None
returns-in-None c =
    subst (λ (z : PartStep). IfOk c.begin_cast_in.result (λ r. Stepped c.begin_cast_in.new.state r z))
    (sym (within_other (entries c.args.state.now) (frames c.args.state.now) c.in-Some.frame (entries c.pop.new.self) (frames c.pop.new.self) (word_of c.args.terminal c.args.token.now.text) c.in-Some.ensures.frames c.pop.ensures.names (c.in-None.ensures (outside (entries c.pop.new.self)))))
    c.begin_cast_in.ensures
