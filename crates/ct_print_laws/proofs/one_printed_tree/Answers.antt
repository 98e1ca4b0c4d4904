use Rattle.std.proofs.Common.{◌≡◌, [], subst}
use Rattle.ct_syntax.specs.Words.{words, text_tokens}
use Rattle.ct_syntax.specs.Spelling.{spell_unit}
use Rattle.ct_syntax.specs.Units.{SpellsItems}
use Rattle.ct_token.proofs.Unique.{same_tokens}
use Rattle.ct_grammar_laws.proofs.Units.{one_list}
use Rattle.ct_print.specs.Text.{text_of}
use Rattle.ct_print.specs.Printed.{IsTextOf}
use Rattle.ct_print.proofs.Printed.{printed_tokens}
use Rattle.ct_print_laws.proofs.one_printed_tree.Goals as goal

pub returns-clause-itself : goal.returns-clause-itself
returns-clause-itself c = printed_tokens

pub returns-clause-alone : goal.returns-clause-alone
returns-clause-alone c = λ scope items others file printable h.
    let text = text_of (spell_unit items []) in
    let own : IsTextOf scope items file text = printed_tokens scope items file printable in
    let same : h.tokens ≡ own.tokens = same_tokens file text h.tokens own.tokens h.tokenization own.tokenization in
    one_list scope (words (text_tokens own.tokens)) others items (subst (λ tokens. SpellsItems scope others (words (text_tokens tokens))) same h.spells) own.spells
