use Rattle.std.proofs.Common.{ℕ, ◌<◌, ◌≡◌, ◌∙◌, ap, subst, sym}
use Rattle.ct_token.specs.Lines.{newlines, source_characters, joined_bytes, joined_lines}
use Rattle.ct_token.specs.Lexing.{AreTokens, LeavesOpen}
use Rattle.ct_token.proofs.Unique.{not_both, for_value}
use Rattle.ct_token.proofs.Returns.{newlines_kept}
use Rattle.ct_token.proofs.tokens.Goals as goal

pub join_lines-requires : goal.join_lines-requires
join_lines-requires c =
    let text = c.args.bytes.now in
    let same : c.as_slice.result.now ≡ source_characters text = c.as_slice.ensures.value ∙ c.in_ok-characters.ensures in
    subst (λ (count : ℕ). count < 4294967295) (sym (ap newlines same ∙ newlines_kept text)) c.requires

pub returns-clause-closed : goal.returns-clause-closed
returns-clause-closed c =
    let text = c.args.bytes.now in
    let characters : c.as_slice.result.now ≡ source_characters text = c.as_slice.ensures.value ∙ c.in_ok-characters.ensures in
    let bytes = c.as_slice-2.result.now in
    let lines = c.as_slice-3.result.now in
    let same : bytes ≡ joined_bytes (source_characters text) =
    c.as_slice-2.ensures.value ∙ c.in_ok-joined.ensures.bytes ∙ ap joined_bytes characters in
    for_value c.cut.result (λ tokens. AreTokens c.args.file bytes lines tokens.items) (λ tokens. (line : ℕ) → LeavesOpen text line → ⊥)
    (λ tokens closed line opened. not_both c.args.file bytes (joined_bytes (source_characters text)) lines (joined_lines (source_characters text)) tokens.items line same closed opened)
    c.cut.ensures.tokens
