-- What is reached in two parts and in a construct round parts, and that it tells the limit that is passed first.
use Rattle.std.proofs.Common.{◌≡◌, ℕ, zero, suc, ◌+◌, ◌-◌, ◌≤◌, ◌<◌, [], ◌∷◌, ◌++◌, None, refl, sym, ap, ◌∙◌, arith, append_assoc}
use Rattle.ct_syntax.specs.Depths.{Room, Left, all_room, or_else}
use Rattle.ct_parser_parts.specs.declared.reach.Nest.{Nest}
use Rattle.ct_parser_parts.specs.declared.reach.Nest.TheVariants.{Expression as OfExpression, Declarator as OfDeclarator, Statement as OfStatement}
use Rattle.ct_parser_parts.specs.Reach.{Depth, flat, expressions_of, declarators_of, statements_of, beyond, both, shortened, nested, passed_by}

-- ---- numbers

same_beyond : (a : Depth) (e d s x y z : ℕ) → e ≡ x → d ≡ y → s ≡ z → beyond e d s a ≡ beyond x y z a
same_beyond a e d s x y z f g h = ap (λ n. beyond n d s a) f ∙ ap (λ n. beyond x n s a) g ∙ ap (λ n. beyond x y n a) h

same_room : (e d s x y z : ℕ) → e ≡ x → d ≡ y → s ≡ z → Left e d s ≡ Left x y z
same_room e d s x y z f g h = ap (λ n. Left n d s) f ∙ ap (λ n. Left x n s) g ∙ ap (λ n. Left x y n) h

-- ---- two parts

beyond_none : (a : Depth) → beyond zero zero zero a ≡ a
beyond_none [] = refl
beyond_none (OfExpression ∷ a) = ap (λ b. OfExpression ∷ b) (beyond_none a)
beyond_none (OfDeclarator ∷ a) = ap (λ b. OfDeclarator ∷ b) (beyond_none a)
beyond_none (OfStatement ∷ a) = ap (λ b. OfStatement ∷ b) (beyond_none a)

no_more : (a : Depth) → a ++ [] ≡ a
no_more [] = refl
no_more (n ∷ a) = ap (λ b. n ∷ b) (no_more a)

pub both_flat : (a : Depth) → both a flat ≡ a
both_flat a = no_more a

pub flat_both : (a : Depth) → both flat a ≡ a
flat_both a = beyond_none a

expressions-append : (a b : Depth) → expressions_of (a ++ b) ≡ expressions_of a + expressions_of b
expressions-append [] b = omega arith
expressions-append (OfExpression ∷ a) b = omega (arith, expressions-append a b)
expressions-append (OfDeclarator ∷ a) b = expressions-append a b
expressions-append (OfStatement ∷ a) b = expressions-append a b

declarators-append : (a b : Depth) → declarators_of (a ++ b) ≡ declarators_of a + declarators_of b
declarators-append [] b = omega arith
declarators-append (OfExpression ∷ a) b = declarators-append a b
declarators-append (OfDeclarator ∷ a) b = omega (arith, declarators-append a b)
declarators-append (OfStatement ∷ a) b = declarators-append a b

statements-append : (a b : Depth) → statements_of (a ++ b) ≡ statements_of a + statements_of b
statements-append [] b = omega arith
statements-append (OfExpression ∷ a) b = statements-append a b
statements-append (OfDeclarator ∷ a) b = statements-append a b
statements-append (OfStatement ∷ a) b = omega (arith, statements-append a b)

expressions-beyond : (e d s : ℕ) (a : Depth) → expressions_of (beyond e d s a) ≡ expressions_of a - e
expressions-beyond e d s [] = omega arith
expressions-beyond zero d s (OfExpression ∷ a) = omega (arith, expressions-beyond zero d s a)
expressions-beyond (suc e) d s (OfExpression ∷ a) = omega (arith, expressions-beyond e d s a)
expressions-beyond e zero s (OfDeclarator ∷ a) = expressions-beyond e zero s a
expressions-beyond e (suc d) s (OfDeclarator ∷ a) = expressions-beyond e d s a
expressions-beyond e d zero (OfStatement ∷ a) = expressions-beyond e d zero a
expressions-beyond e d (suc s) (OfStatement ∷ a) = expressions-beyond e d s a

declarators-beyond : (e d s : ℕ) (a : Depth) → declarators_of (beyond e d s a) ≡ declarators_of a - d
declarators-beyond e d s [] = omega arith
declarators-beyond zero d s (OfExpression ∷ a) = declarators-beyond zero d s a
declarators-beyond (suc e) d s (OfExpression ∷ a) = declarators-beyond e d s a
declarators-beyond e zero s (OfDeclarator ∷ a) = omega (arith, declarators-beyond e zero s a)
declarators-beyond e (suc d) s (OfDeclarator ∷ a) = omega (arith, declarators-beyond e d s a)
declarators-beyond e d zero (OfStatement ∷ a) = declarators-beyond e d zero a
declarators-beyond e d (suc s) (OfStatement ∷ a) = declarators-beyond e d s a

statements-beyond : (e d s : ℕ) (a : Depth) → statements_of (beyond e d s a) ≡ statements_of a - s
statements-beyond e d s [] = omega arith
statements-beyond zero d s (OfExpression ∷ a) = statements-beyond zero d s a
statements-beyond (suc e) d s (OfExpression ∷ a) = statements-beyond e d s a
statements-beyond e zero s (OfDeclarator ∷ a) = statements-beyond e zero s a
statements-beyond e (suc d) s (OfDeclarator ∷ a) = statements-beyond e d s a
statements-beyond e d zero (OfStatement ∷ a) = omega (arith, statements-beyond e d zero a)
statements-beyond e d (suc s) (OfStatement ∷ a) = omega (arith, statements-beyond e d s a)

beyond-append : (e d s : ℕ) (a b : Depth) → beyond e d s (a ++ b) ≡ beyond e d s a ++ beyond (e - expressions_of a) (d - declarators_of a) (s - statements_of a) b
beyond-append e d s [] b = same_beyond b e d s _ _ _ (omega arith) (omega arith) (omega arith)
beyond-append zero d s (OfExpression ∷ a) b = ap (λ z. OfExpression ∷ z) (beyond-append zero d s a b ∙ ap (λ z. beyond zero d s a ++ z) (same_beyond b (zero - expressions_of a) (d - declarators_of a) (s - statements_of a) (zero - suc (expressions_of a)) (d - declarators_of a) (s - statements_of a) (omega arith) (omega arith) (omega arith)))
beyond-append (suc e) d s (OfExpression ∷ a) b = beyond-append e d s a b ∙ ap (λ z. beyond e d s a ++ z) (same_beyond b (e - expressions_of a) (d - declarators_of a) (s - statements_of a) ((suc e) - suc (expressions_of a)) (d - declarators_of a) (s - statements_of a) (omega arith) (omega arith) (omega arith))
beyond-append e zero s (OfDeclarator ∷ a) b = ap (λ z. OfDeclarator ∷ z) (beyond-append e zero s a b ∙ ap (λ z. beyond e zero s a ++ z) (same_beyond b (e - expressions_of a) (zero - declarators_of a) (s - statements_of a) (e - expressions_of a) (zero - suc (declarators_of a)) (s - statements_of a) (omega arith) (omega arith) (omega arith)))
beyond-append e (suc d) s (OfDeclarator ∷ a) b = beyond-append e d s a b ∙ ap (λ z. beyond e d s a ++ z) (same_beyond b (e - expressions_of a) (d - declarators_of a) (s - statements_of a) (e - expressions_of a) ((suc d) - suc (declarators_of a)) (s - statements_of a) (omega arith) (omega arith) (omega arith))
beyond-append e d zero (OfStatement ∷ a) b = ap (λ z. OfStatement ∷ z) (beyond-append e d zero a b ∙ ap (λ z. beyond e d zero a ++ z) (same_beyond b (e - expressions_of a) (d - declarators_of a) (zero - statements_of a) (e - expressions_of a) (d - declarators_of a) (zero - suc (statements_of a)) (omega arith) (omega arith) (omega arith)))
beyond-append e d (suc s) (OfStatement ∷ a) b = beyond-append e d s a b ∙ ap (λ z. beyond e d s a ++ z) (same_beyond b (e - expressions_of a) (d - declarators_of a) (s - statements_of a) (e - expressions_of a) (d - declarators_of a) ((suc s) - suc (statements_of a)) (omega arith) (omega arith) (omega arith))

beyond-beyond : (e d s x y z : ℕ) (a : Depth) → beyond e d s (beyond x y z a) ≡ beyond (e + x) (d + y) (s + z) a
beyond-beyond e d s x y z [] = refl
beyond-beyond e d s (suc x) y z (OfExpression ∷ a) = beyond-beyond e d s x y z a ∙ same_beyond (OfExpression ∷ a) (suc (e + x)) (d + y) (s + z) (e + suc x) (d + y) (s + z) (omega arith) (omega arith) (omega arith)
beyond-beyond zero d s zero y z (OfExpression ∷ a) = ap (λ w. OfExpression ∷ w) (beyond-beyond zero d s zero y z a ∙ same_beyond a (zero + zero) (d + y) (s + z) zero (d + y) (s + z) (omega arith) (omega arith) (omega arith)) ∙ same_beyond (OfExpression ∷ a) zero (d + y) (s + z) (zero + zero) (d + y) (s + z) (omega arith) (omega arith) (omega arith)
beyond-beyond (suc e) d s zero y z (OfExpression ∷ a) = beyond-beyond e d s zero y z a ∙ same_beyond (OfExpression ∷ a) (suc (e + zero)) (d + y) (s + z) (suc e + zero) (d + y) (s + z) (omega arith) (omega arith) (omega arith)
beyond-beyond e d s x (suc y) z (OfDeclarator ∷ a) = beyond-beyond e d s x y z a ∙ same_beyond (OfDeclarator ∷ a) (e + x) (suc (d + y)) (s + z) (e + x) (d + suc y) (s + z) (omega arith) (omega arith) (omega arith)
beyond-beyond e zero s x zero z (OfDeclarator ∷ a) = ap (λ w. OfDeclarator ∷ w) (beyond-beyond e zero s x zero z a ∙ same_beyond a (e + x) (zero + zero) (s + z) (e + x) zero (s + z) (omega arith) (omega arith) (omega arith)) ∙ same_beyond (OfDeclarator ∷ a) (e + x) zero (s + z) (e + x) (zero + zero) (s + z) (omega arith) (omega arith) (omega arith)
beyond-beyond e (suc d) s x zero z (OfDeclarator ∷ a) = beyond-beyond e d s x zero z a ∙ same_beyond (OfDeclarator ∷ a) (e + x) (suc (d + zero)) (s + z) (e + x) (suc d + zero) (s + z) (omega arith) (omega arith) (omega arith)
beyond-beyond e d s x y (suc z) (OfStatement ∷ a) = beyond-beyond e d s x y z a ∙ same_beyond (OfStatement ∷ a) (e + x) (d + y) (suc (s + z)) (e + x) (d + y) (s + suc z) (omega arith) (omega arith) (omega arith)
beyond-beyond e d zero x y zero (OfStatement ∷ a) = ap (λ w. OfStatement ∷ w) (beyond-beyond e d zero x y zero a ∙ same_beyond a (e + x) (d + y) (zero + zero) (e + x) (d + y) zero (omega arith) (omega arith) (omega arith)) ∙ same_beyond (OfStatement ∷ a) (e + x) (d + y) zero (e + x) (d + y) (zero + zero) (omega arith) (omega arith) (omega arith)
beyond-beyond e d (suc s) x y zero (OfStatement ∷ a) = beyond-beyond e d s x y zero a ∙ same_beyond (OfStatement ∷ a) (e + x) (d + y) (suc (s + zero)) (e + x) (d + y) (suc s + zero) (omega arith) (omega arith) (omega arith)

pub both-assoc : (a b c : Depth) → both (both a b) c ≡ both a (both b c)
both-assoc a b c =
    let e = expressions_of a in
    let d = declarators_of a in
    let s = statements_of a in
    let rest = beyond (expressions_of b) (declarators_of b) (statements_of b) c in
    append_assoc a (beyond e d s b) (beyond (expressions_of (both a b)) (declarators_of (both a b)) (statements_of (both a b)) c)
    ∙ ap (λ z. a ++ (beyond e d s b ++ z)) (
    same_beyond c _ _ _ ((e - expressions_of b) + expressions_of b) ((d - declarators_of b) + declarators_of b) ((s - statements_of b) + statements_of b)
    (omega (arith, expressions-append a (beyond e d s b), expressions-beyond e d s b))
    (omega (arith, declarators-append a (beyond e d s b), declarators-beyond e d s b))
    (omega (arith, statements-append a (beyond e d s b), statements-beyond e d s b))
    ∙ sym (beyond-beyond (e - expressions_of b) (d - declarators_of b) (s - statements_of b) (expressions_of b) (declarators_of b) (statements_of b) c))
    ∙ ap (λ z. a ++ z) (sym (beyond-append e d s b rest))

-- ---- which limit is passed first

passed-beyond : (e d s x y z : ℕ) (b : Depth) → passed_by (Left e d s) (beyond x y z b) ≡ passed_by (Left (e + x) (d + y) (s + z)) b
passed-beyond e d s x y z [] = refl
passed-beyond e d s (suc x) y z (OfExpression ∷ b) = passed-beyond e d s x y z b ∙ ap (λ r. passed_by r (OfExpression ∷ b)) (same_room (suc (e + x)) (d + y) (s + z) (e + suc x) (d + y) (s + z) (omega arith) (omega arith) (omega arith))
passed-beyond zero d s zero y z (OfExpression ∷ b) = ap (λ r. passed_by r (OfExpression ∷ b)) (same_room zero (d + y) (s + z) (zero + zero) (d + y) (s + z) (omega arith) (omega arith) (omega arith))
passed-beyond (suc e) d s zero y z (OfExpression ∷ b) = passed-beyond e d s zero y z b ∙ ap (λ r. passed_by r (OfExpression ∷ b)) (same_room (suc (e + zero)) (d + y) (s + z) (suc e + zero) (d + y) (s + z) (omega arith) (omega arith) (omega arith))
passed-beyond e d s x (suc y) z (OfDeclarator ∷ b) = passed-beyond e d s x y z b ∙ ap (λ r. passed_by r (OfDeclarator ∷ b)) (same_room (e + x) (suc (d + y)) (s + z) (e + x) (d + suc y) (s + z) (omega arith) (omega arith) (omega arith))
passed-beyond e zero s x zero z (OfDeclarator ∷ b) = ap (λ r. passed_by r (OfDeclarator ∷ b)) (same_room (e + x) zero (s + z) (e + x) (zero + zero) (s + z) (omega arith) (omega arith) (omega arith))
passed-beyond e (suc d) s x zero z (OfDeclarator ∷ b) = passed-beyond e d s x zero z b ∙ ap (λ r. passed_by r (OfDeclarator ∷ b)) (same_room (e + x) (suc (d + zero)) (s + z) (e + x) (suc d + zero) (s + z) (omega arith) (omega arith) (omega arith))
passed-beyond e d s x y (suc z) (OfStatement ∷ b) = passed-beyond e d s x y z b ∙ ap (λ r. passed_by r (OfStatement ∷ b)) (same_room (e + x) (d + y) (suc (s + z)) (e + x) (d + y) (s + suc z) (omega arith) (omega arith) (omega arith))
passed-beyond e d zero x y zero (OfStatement ∷ b) = ap (λ r. passed_by r (OfStatement ∷ b)) (same_room (e + x) (d + y) zero (e + x) (d + y) (zero + zero) (omega arith) (omega arith) (omega arith))
passed-beyond e d (suc s) x y zero (OfStatement ∷ b) = passed-beyond e d s x y zero b ∙ ap (λ r. passed_by r (OfStatement ∷ b)) (same_room (e + x) (d + y) (suc (s + zero)) (e + x) (d + y) (suc s + zero) (omega arith) (omega arith) (omega arith))

passed-then : (a b : Depth) (e d s x y z : ℕ) → passed_by (Left e d s) (a ++ beyond (expressions_of a + x) (declarators_of a + y) (statements_of a + z) b) ≡ or_else (passed_by (Left e d s) a) (passed_by (Left (e + x) (d + y) (s + z)) b)
passed-then [] b e d s x y z = ap (passed_by (Left e d s)) (same_beyond b (zero + x) (zero + y) (zero + z) x y z (omega arith) (omega arith) (omega arith)) ∙ passed-beyond e d s x y z b
passed-then (OfExpression ∷ a) b zero d s x y z = refl
passed-then (OfExpression ∷ a) b (suc e) d s x y z =
    ap (λ w. passed_by (Left e d s) (a ++ w)) (same_beyond b (suc (expressions_of a) + x) (declarators_of a + y) (statements_of a + z) (expressions_of a + suc x) (declarators_of a + y) (statements_of a + z) (omega arith) (omega arith) (omega arith))
    ∙ passed-then a b e d s (suc x) y z
    ∙ ap (λ r. or_else (passed_by (Left e d s) a) (passed_by r b)) (same_room (e + suc x) (d + y) (s + z) (suc e + x) (d + y) (s + z) (omega arith) (omega arith) (omega arith))
passed-then (OfDeclarator ∷ a) b e zero s x y z = refl
passed-then (OfDeclarator ∷ a) b e (suc d) s x y z =
    ap (λ w. passed_by (Left e d s) (a ++ w)) (same_beyond b (expressions_of a + x) (suc (declarators_of a) + y) (statements_of a + z) (expressions_of a + x) (declarators_of a + suc y) (statements_of a + z) (omega arith) (omega arith) (omega arith))
    ∙ passed-then a b e d s x (suc y) z
    ∙ ap (λ r. or_else (passed_by (Left e d s) a) (passed_by r b)) (same_room (e + x) (d + suc y) (s + z) (e + x) (suc d + y) (s + z) (omega arith) (omega arith) (omega arith))
passed-then (OfStatement ∷ a) b e d zero x y z = refl
passed-then (OfStatement ∷ a) b e d (suc s) x y z =
    ap (λ w. passed_by (Left e d s) (a ++ w)) (same_beyond b (expressions_of a + x) (declarators_of a + y) (suc (statements_of a) + z) (expressions_of a + x) (declarators_of a + y) (statements_of a + suc z) (omega arith) (omega arith) (omega arith))
    ∙ passed-then a b e d s x y (suc z)
    ∙ ap (λ r. or_else (passed_by (Left e d s) a) (passed_by r b)) (same_room (e + x) (d + y) (s + suc z) (e + x) (d + y) (suc s + z) (omega arith) (omega arith) (omega arith))

pub passed-both : (r : Room) (a b : Depth) → passed_by r (both a b) ≡ or_else (passed_by r a) (passed_by r b)
passed-both (Left e d s) a b =
    ap (λ w. passed_by (Left e d s) (a ++ w)) (same_beyond b (expressions_of a) (declarators_of a) (statements_of a) (expressions_of a + 0) (declarators_of a + 0) (statements_of a + 0) (omega arith) (omega arith) (omega arith))
    ∙ passed-then a b e d s 0 0 0
    ∙ ap (λ r. or_else (passed_by (Left e d s) a) (passed_by r b)) (same_room (e + 0) (d + 0) (s + 0) e d s (omega arith) (omega arith) (omega arith))

passed-shortened : (a : Depth) (e d s x y z : ℕ) → e < x → d < y → s < z → passed_by (Left e d s) (shortened x y z a) ≡ passed_by (Left e d s) a
passed-shortened [] e d s x y z f g h = refl
passed-shortened (OfExpression ∷ a) e d s zero y z f g h = absurd (omega (arith, f, g, h))
passed-shortened (OfExpression ∷ a) zero d s (suc x) y z f g h = refl
passed-shortened (OfExpression ∷ a) (suc e) d s (suc x) y z f g h = passed-shortened a e d s x y z (omega (arith, f)) (omega (arith, g)) (omega (arith, h))
passed-shortened (OfDeclarator ∷ a) e d s x zero z f g h = absurd (omega (arith, f, g, h))
passed-shortened (OfDeclarator ∷ a) e zero s x (suc y) z f g h = refl
passed-shortened (OfDeclarator ∷ a) e (suc d) s x (suc y) z f g h = passed-shortened a e d s x y z (omega (arith, f)) (omega (arith, g)) (omega (arith, h))
passed-shortened (OfStatement ∷ a) e d s x y zero f g h = absurd (omega (arith, f, g, h))
passed-shortened (OfStatement ∷ a) e d zero x y (suc z) f g h = refl
passed-shortened (OfStatement ∷ a) e d (suc s) x y (suc z) f g h = passed-shortened a e d s x y z (omega (arith, f)) (omega (arith, g)) (omega (arith, h))

-- at most the room of the beginning
abbrev pub InRoom : Room → Type 0
InRoom (Left e d s) = (e ≤ 64) × (d ≤ 32) × (s ≤ 32)

pub passed-nested : (n : Nest) (a : Depth) (r : Room) → InRoom r → passed_by r (nested n a) ≡ passed_by r (n ∷ a)
passed-nested n a (Left e d s) h = passed-shortened (n ∷ a) e d s 65 33 33 (omega (arith, h.0)) (omega (arith, h.1)) (omega (arith, h.2))

more_room : (a : Depth) (e d s x y z : ℕ) → passed_by (Left e d s) a ≡ None → e ≤ x → d ≤ y → s ≤ z → passed_by (Left x y z) a ≡ None
more_room [] e d s x y z k f g h = refl
more_room (OfExpression ∷ a) zero d s x y z k f g h = absurd cc
more_room (OfExpression ∷ a) (suc e) d s zero y z k f g h = absurd (omega (arith, f, g, h))
more_room (OfExpression ∷ a) (suc e) d s (suc x) y z k f g h = more_room a e d s x y z k (omega (arith, f)) (omega (arith, g)) (omega (arith, h))
more_room (OfDeclarator ∷ a) e zero s x y z k f g h = absurd cc
more_room (OfDeclarator ∷ a) e (suc d) s x zero z k f g h = absurd (omega (arith, f, g, h))
more_room (OfDeclarator ∷ a) e (suc d) s x (suc y) z k f g h = more_room a e d s x y z k (omega (arith, f)) (omega (arith, g)) (omega (arith, h))
more_room (OfStatement ∷ a) e d zero x y z k f g h = absurd cc
more_room (OfStatement ∷ a) e d (suc s) x y zero k f g h = absurd (omega (arith, f, g, h))
more_room (OfStatement ∷ a) e d (suc s) x y (suc z) k f g h = more_room a e d s x y z k (omega (arith, f)) (omega (arith, g)) (omega (arith, h))

-- what is passed within a construct's parts is passed with the construct
pub parts_pass : (n : Nest) (a : Depth) → passed_by all_room (nested n a) ≡ None → passed_by all_room a ≡ None
parts_pass n a h = by n (sym (passed-nested n a all_room (omega arith, omega arith, omega arith)) ∙ h)
  where
    by : (n : Nest) → passed_by all_room (n ∷ a) ≡ None → passed_by all_room a ≡ None
    by OfExpression k = more_room a 63 32 32 64 32 32 k (omega arith) (omega arith) (omega arith)
    by OfDeclarator k = more_room a 64 31 32 64 32 32 k (omega arith) (omega arith) (omega arith)
    by OfStatement k = more_room a 64 32 31 64 32 32 k (omega arith) (omega arith) (omega arith)
