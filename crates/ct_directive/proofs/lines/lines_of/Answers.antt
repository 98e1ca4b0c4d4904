use Rattle.std.proofs.Common.{rules, ◌≡◌, ◌∙◌, sym, length, [], ◌∷◌, ◌++◌}
use Rattle.std.proofs.lemmas.Bool.{false≢true}
use Rattle.ct_directive.specs.Lines as spec
use Rattle.ct_directive.proofs.Cutting.{last_line}
use Rattle.ct_directive.proofs.lines.lines_of.Goals as goal

pub returns : goal.returns
returns c =
    let done : length c.loop-token.token-iterator.rest.items ≡ 0 = sym c.loop-token.token-iterator.rest.ok.0 ∙ c.in-None.ensures.steps.0 in
    let some : c.loop-token.line ≡ [] → ⊥ = λ e. false≢true (sym c.if-is_empty.false ∙ c.is_empty.ensures.1 e) in
    let pushed : c.push-2.new.self.items ≡ c.loop-token.lines.items ++ c.loop-token.line ∷ [] = search rules in
    pushed ∙ last_line (spec.lines_of c.args.tokens.items) c.loop-token.lines.items c.loop-token.line c.loop-token.token-iterator.rest.items c.loop-token.invariant done some
