-- One step of the loops whose items are of several parts.
use Rattle.std.proofs.Common.{◌≡◌, ℕ, ◌+◌, ◌<◌, List, [], ◌∷◌, ◌++◌, length, get_or, drop, sym, ap, ◌∙◌}
use Rattle.ct_syntax.specs.declared.words.Keyword.TheVariants.{If, Else}
use Rattle.ct_syntax.specs.declared.words.Mark.TheVariants.{Open, Close, Comma, Semicolon}
use Rattle.ct_syntax.specs.declared.expressions.Spec.{Spec}
use Rattle.ct_syntax.specs.declared.expressions.Declarator.{Declarator}
use Rattle.ct_syntax.specs.declared.expressions.Enumerator.{Enumerator}
use Rattle.ct_syntax.specs.declared.expressions.Member.{Member}
use Rattle.ct_syntax.specs.declared.statements.Branch.{Branch}
use Rattle.ct_syntax.specs.declared.statements.BlockItem.{BlockItem}
use Rattle.ct_syntax.specs.Words.{Text, Word, Sign, Key, Named}
use Rattle.ct_syntax.specs.Trees.{no_part}
use Rattle.ct_syntax.specs.Views.{view, specs_of}
use Rattle.ct_syntax.specs.UnitViews.{view_statement, view_part, body_of}
use Rattle.ct_syntax.specs.Lists.{optional_of, declarators_of, members_of, enumerators_of, branches_of}
use Rattle.ct_syntax.specs.Spelling.{spell, spell_specs, spell_value, spell_members, spell_declarators, spell_more_enumerators, spell_statement, spell_more_branches, spell_body}
use Rattle.ct_print.specs.Text.{Appends, text_of}
use Rattle.ct_print.proofs.Chain.{next_item, part_first}

pub enumerator_step : (others : List Enumerator) (i : ℕ) (x : Enumerator) (old now middle next : Text) (rest : List Word) → i < length others → x ≡ get_or others i x → now ++ text_of (spell_more_enumerators (enumerators_of (drop i others)) rest) ≡ old → Appends now middle (λ ws. Sign Comma ∷ ws) → Appends middle next (λ ws. Named x.name ∷ spell_value (optional_of x.value) ws) → next ++ text_of (spell_more_enumerators (enumerators_of (drop (i + 1) others)) rest) ≡ old
enumerator_step others i x old now middle next rest within is before comma one =
    let left = spell_more_enumerators (enumerators_of (drop (i + 1) others)) rest in
    one left
    ∙ comma (Named x.name ∷ spell_value (optional_of x.value) left)
    ∙ ap (λ xs. now ++ text_of (spell_more_enumerators (enumerators_of xs) rest)) (sym (next_item others i x within is))
    ∙ before

pub member_step : (members : List Member) (i : ℕ) (x : Member) (specs : List Spec) (declarators : List Declarator) (old now first second next : Text) (rest : List Word) → i < length members → x ≡ get_or members i x → specs ≡ x.specs.items → declarators ≡ x.declarators.items → now ++ text_of (spell_members (members_of (drop i members)) rest) ≡ old → Appends now first (spell_specs (specs_of specs)) → Appends first second (spell_declarators (declarators_of declarators)) → Appends second next (λ ws. Sign Semicolon ∷ ws) → next ++ text_of (spell_members (members_of (drop (i + 1) members)) rest) ≡ old
member_step members i x specs declarators old now first second next rest within is same same' before one two three =
    let left = Sign Semicolon ∷ spell_members (members_of (drop (i + 1) members)) rest in
    three (spell_members (members_of (drop (i + 1) members)) rest)
    ∙ two left
    ∙ one (spell_declarators (declarators_of declarators) left)
    ∙ ap (λ ss. now ++ text_of (spell_specs (specs_of ss) (spell_declarators (declarators_of declarators) left))) same
    ∙ ap (λ ds. now ++ text_of (spell_specs (specs_of x.specs.items) (spell_declarators (declarators_of ds) left))) same'
    ∙ ap (λ xs. now ++ text_of (spell_members (members_of xs) rest)) (sym (next_item members i x within is))
    ∙ before

pub branch_step : (others : List Branch) (i : ℕ) (x : Branch) (old now middle next : Text) (rest : List Word) → i < length others → x ≡ get_or others i x → now ++ text_of (spell_more_branches (branches_of (drop i others)) rest) ≡ old → Appends now middle (λ ws. Key Else ∷ ws) → Appends middle next (λ ws. Key If ∷ Sign Open ∷ spell (view x.test) (Sign Close ∷ spell_statement (view_statement x.body) ws)) → next ++ text_of (spell_more_branches (branches_of (drop (i + 1) others)) rest) ≡ old
branch_step others i x old now middle next rest within is before other one =
    let left = spell_more_branches (branches_of (drop (i + 1) others)) rest in
    one left
    ∙ other (Key If ∷ Sign Open ∷ spell (view x.test) (Sign Close ∷ spell_statement (view_statement x.body) left))
    ∙ ap (λ xs. now ++ text_of (spell_more_branches (branches_of xs) rest)) (sym (next_item others i x within is))
    ∙ before

pub part_step : (parts : List BlockItem) (i : ℕ) (x : BlockItem) (old now next : Text) (rest : List Word) → i < length parts → x ≡ get_or parts i x → now ++ text_of (spell_body (body_of (drop i parts)) rest) ≡ old → Appends now next (spell_body (view_part x no_part)) → next ++ text_of (spell_body (body_of (drop (i + 1) parts)) rest) ≡ old
part_step parts i x old now next rest within is before one =
    one (spell_body (body_of (drop (i + 1) parts)) rest)
    ∙ ap (λ ws. now ++ text_of ws) (sym (part_first x (body_of (drop (i + 1) parts)) rest))
    ∙ ap (λ xs. now ++ text_of (spell_body (body_of xs) rest)) (sym (next_item parts i x within is))
    ∙ before
