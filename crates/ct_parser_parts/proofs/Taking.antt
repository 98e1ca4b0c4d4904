-- Counting constructs down, sort by sort.
use Rattle.std.proofs.Common.{◌≡◌, ℕ, zero, suc, ◌-◌, ◌<◌, ◌∷◌, true, false, refl, ap, arith}
use Rattle.ct_syntax.specs.Depths.{Left}
use Rattle.ct_parser_parts.specs.declared.reach.Nest.TheVariants.{Expression as OfExpression, Declarator as OfDeclarator, Statement as OfStatement}
use Rattle.ct_parser_parts.specs.declared.reach.Counts.{Counts}
use Rattle.ct_parser_parts.specs.Reach.{beyond, shortened, passed_by}
use Rattle.ct_parser_parts.specs.Taking.{Takes}

abbrev counts : ℕ → ℕ → ℕ → Counts
counts e d s = record { expressions = e; declarators = d; statements = s }

less : (n : ℕ) → n ≡ suc n - 1
less n = omega arith

pub no_expression : (e d s : ℕ) → e ≡ 0 → Takes (counts e d s) OfExpression false (counts e d s)
no_expression zero d s h = record { further = λ a. refl; shorter = λ a. refl; passes = λ a. refl }
no_expression (suc e) d s h = absurd (omega (arith, h))

pub one_expression : (e d s : ℕ) → 0 < e → Takes (counts e d s) OfExpression true (counts (e - 1) d s)
one_expression zero d s h = absurd (omega (arith, h))
one_expression (suc e) d s h = record { further = λ a. ap (λ n. beyond n d s a) (less e); shorter = λ a. ap (λ n. OfExpression ∷ shortened n d s a) (less e); passes = λ a. ap (λ n. passed_by (Left n d s) a) (less e) }

pub no_declarator : (e d s : ℕ) → d ≡ 0 → Takes (counts e d s) OfDeclarator false (counts e d s)
no_declarator e zero s h = record { further = λ a. refl; shorter = λ a. refl; passes = λ a. refl }
no_declarator e (suc d) s h = absurd (omega (arith, h))

pub one_declarator : (e d s : ℕ) → 0 < d → Takes (counts e d s) OfDeclarator true (counts e (d - 1) s)
one_declarator e zero s h = absurd (omega (arith, h))
one_declarator e (suc d) s h = record { further = λ a. ap (λ n. beyond e n s a) (less d); shorter = λ a. ap (λ n. OfDeclarator ∷ shortened e n s a) (less d); passes = λ a. ap (λ n. passed_by (Left e n s) a) (less d) }

pub no_statement : (e d s : ℕ) → s ≡ 0 → Takes (counts e d s) OfStatement false (counts e d s)
no_statement e d zero h = record { further = λ a. refl; shorter = λ a. refl; passes = λ a. refl }
no_statement e d (suc s) h = absurd (omega (arith, h))

pub one_statement : (e d s : ℕ) → 0 < s → Takes (counts e d s) OfStatement true (counts e d (s - 1))
one_statement e d zero h = absurd (omega (arith, h))
one_statement e d (suc s) h = record { further = λ a. ap (λ n. beyond e d n a) (less s); shorter = λ a. ap (λ n. OfStatement ∷ shortened e d n a) (less s); passes = λ a. ap (λ n. passed_by (Left e d n) a) (less s) }

pub ruleset taken = (no_expression, no_declarator, no_statement, one_expression, one_declarator, one_statement)
