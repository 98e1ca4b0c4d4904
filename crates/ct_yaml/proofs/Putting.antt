-- Where a mark is put.
use Rattle.std.proofs.Common.{◌≡◌, ℕ, suc, List, [], ◌∷◌, ◌++◌, length, Option, Some, None, refl, sym, ap, ◌∙◌, ⊎_elim, arith, ◌+◌, append_assoc, length-append}
use Rattle.std.proofs.lemmas.Bool.{cond-true, cond-false, cases_Bool}
use Rattle.ct_yaml.specs.declared.mark.Mark.{Mark}
use Rattle.ct_yaml.specs.declared.mark.Inline.{Inline}
use Rattle.ct_yaml.specs.declared.stack.Block.{Block}
use Rattle.ct_yaml.specs.Reading.{mapped}
use Rattle.ct_yaml.specs.Stack.{Open, is_inside, inside_len, begun, next_in, within, around, put, closed}

around_none : (o : Option Open) → o ≡ mapped (around []) o
around_none None = refl
around_none (Some s) = refl

around_more : (b : Block) (blocks : List Block) (o : Option Open) → mapped (within b) (mapped (around blocks) o) ≡ mapped (around (b ∷ blocks)) o
around_more b blocks None = refl
around_more b blocks (Some s) = refl

-- the mark belongs to the innermost value
pub put_end : (m : Mark) (blocks : List Block) (v : Option Inline) → inside_len m blocks ≡ length blocks → put m blocks v ≡ mapped (around blocks) (begun m v)
put_end m [] v h = around_none (begun m v)
put_end m (b ∷ blocks) v h =
    ⊎_elim
    (λ e. cond-true (is_inside m b) (mapped (within b) (put m blocks v)) (next_in m b (closed blocks v)) e
    ∙ ap (mapped (within b)) (put_end m blocks v (omega (arith, sym h ∙ cond-true (is_inside m b) (suc (inside_len m blocks)) 0 e)))
    ∙ around_more b blocks (begun m v))
    (λ e. absurd (omega (arith, sym h ∙ cond-false (is_inside m b) (suc (inside_len m blocks)) 0 e)))
    (cases_Bool (is_inside m b))

-- the mark begins the next part of a block
pub put_next : (m : Mark) (before : List Block) (b : Block) (above : List Block) (v : Option Inline) → inside_len m (before ++ b ∷ above) ≡ length before
    → put m (before ++ b ∷ above) v ≡ mapped (around before) (next_in m b (closed above v))
put_next m [] b above v h =
    ⊎_elim
    (λ e. absurd (omega (arith, sym h ∙ cond-true (is_inside m b) (suc (inside_len m above)) 0 e)))
    (λ e. cond-false (is_inside m b) (mapped (within b) (put m above v)) (next_in m b (closed above v)) e ∙ around_none (next_in m b (closed above v)))
    (cases_Bool (is_inside m b))
put_next m (c ∷ before) b above v h =
    ⊎_elim
    (λ e. cond-true (is_inside m c) (mapped (within c) (put m (before ++ b ∷ above) v)) (next_in m c (closed (before ++ b ∷ above) v)) e
    ∙ ap (mapped (within c)) (put_next m before b above v (omega (arith, sym h ∙ cond-true (is_inside m c) (suc (inside_len m (before ++ b ∷ above))) 0 e)))
    ∙ around_more c before (next_in m b (closed above v)))
    (λ e. absurd (omega (arith, sym h ∙ cond-false (is_inside m c) (suc (inside_len m (before ++ b ∷ above))) 0 e)))
    (cases_Bool (is_inside m c))

-- the blocks above are closed, and the one in which the mark begins the next part is the innermost
pub put_closed : (m : Mark) (old kept before above : List Block) (b : Block) (v : Option Inline) (place : ℕ)
    → place ≡ inside_len m old → old ≡ kept ++ above → length kept ≡ place + 1 → kept ≡ before ++ b ∷ []
    → put m old v ≡ mapped (around before) (next_in m b (closed above v))
put_closed m old kept before above b v place here cut len last =
    let whole : old ≡ before ++ b ∷ above = cut ∙ ap (λ x. x ++ above) last ∙ append_assoc before (b ∷ []) above in
    let count : inside_len m (before ++ b ∷ above) ≡ length before =
    omega (arith, ap (inside_len m) whole, ap length last, length-append before (b ∷ [])) in
    ap (λ x. put m x v) whole ∙ put_next m before b above v count

-- a list of one more is one with a last block
pub has_last : (blocks : List Block) (n : ℕ) → length blocks ≡ n + 1 → (before : List Block) × (b : Block) × (blocks ≡ before ++ b ∷ [])
has_last [] n h = absurd (omega arith)
has_last (b ∷ []) n h = ([], b, refl)
has_last (b ∷ c ∷ blocks) n h = let r = has_last (c ∷ blocks) (length blocks) (omega arith) in (b ∷ r.0, r.1, ap (λ x. b ∷ x) r.2)
