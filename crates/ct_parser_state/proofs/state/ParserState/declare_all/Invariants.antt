use Rattle.std.proofs.Common.{◌≡◌, drop}
use Rattle.ct_parser_parts.specs.Parts.{declare_all}
use Rattle.ct_parser_parts.specs.Views.{names_of}
use Rattle.ct_parser_state.specs.Code.{entries, frames, outside, scope}
use Rattle.ct_parser_state.proofs.state.ParserState.declare_all.Given as goal

abbrev pub invariant-loop-declared : goal.invariant-loop-declared
invariant-loop-declared l =
    (declare_all (scope l.self) (names_of (drop l.declared-index l.names)) ≡ declare_all (scope l.fn.self) (names_of l.names))
    × (outside (entries l.self) ≡ outside (entries l.fn.self)) × (frames l.self ≡ frames l.fn.self)
