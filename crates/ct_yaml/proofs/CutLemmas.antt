-- The lines of a text are those that `bstr` cuts.
use Rattle.std.proofs.Common.{Result, Ok, Err, ◌≡◌, ℕ, suc, ◌-◌, ◌^◌, ◌<◌, ◌≤◌, Bool, true, false, cond, eqb, ltb, List, [], ◌∷◌, length, take, drop, map, get_or, refl, sym, ap, ◌∙◌, ◌&&◌, ⊎_elim, arith}
use Rattle.std.proofs.lemmas.Bool.{cond-true, cond-false, cases_Bool, and_left, and_right, and_from, lt-ltb, cond_both}
use Rattle.bstr.specs.Text.{line_len, lines_of, no_cr, without_terminator}
use Rattle.bstr.proofs.lemmas.LineLemmas.{lines-nil, lines-step}
use Rattle.ct_base.specs.Answers.{IfFault}
use Rattle.ct_base.specs.declared.memory.Fail.{Fail}
use Rattle.ct_base.specs.declared.memory.Fail.TheVariants.{Fault, OutOfMemory}
use Rattle.ct_yaml.specs.declared.node.Node.{Node}
use Rattle.ct_yaml.specs.declared.text.YamlFault.{YamlFault}
use Rattle.ct_yaml.specs.Run.{run_all, Comes}
use Rattle.ct_yaml.specs.Text.{in_front, begins_newline, text_lines, IsFaultLine}
use Rattle.ct_yaml.proofs.RunLemmas.{comes_refused, line_told}

-- ---- a line without its end

cons_cond : (t : Bool) (b : ℕ) (xs ys : List ℕ) → cond t (b ∷ xs) (b ∷ ys) ≡ b ∷ cond t xs ys
cons_cond true b xs ys = refl
cons_cond false b xs ys = refl

-- whether a line has a byte, and its last one is k
abbrev last_is : ℕ → List ℕ → Bool
last_is k xs = ltb 0 (length xs) && eqb (get_or xs (length xs - 1) 0) k

last_more : (k b c : ℕ) (l : List ℕ) → last_is k (b ∷ c ∷ l) ≡ last_is k (c ∷ l)
last_more k b c l =
    let long : suc (suc (length l)) - 1 ≡ suc (length l) = omega arith in
    let short : suc (length l) - 1 ≡ length l = omega arith in
    ap (λ t. t && eqb (get_or (b ∷ c ∷ l) (suc (suc (length l)) - 1) 0) k) (lt-ltb 0 (suc (suc (length l))) (omega arith) ∙ sym (lt-ltb 0 (suc (length l)) (omega arith)))
    ∙ ap (λ i. ltb 0 (suc (length l)) && eqb (get_or (b ∷ c ∷ l) i 0) k) long
    ∙ ap (λ i. ltb 0 (suc (length l)) && eqb (get_or (c ∷ l) i 0) k) (sym short)

front_more : (b c : ℕ) (l : List ℕ) → take (length (b ∷ c ∷ l) - 1) (b ∷ c ∷ l) ≡ b ∷ take (length (c ∷ l) - 1) (c ∷ l)
front_more b c l =
    let long : suc (suc (length l)) - 1 ≡ suc (length l) = omega arith in
    let short : suc (length l) - 1 ≡ length l = omega arith in
    ap (λ i. take i (b ∷ c ∷ l)) long ∙ ap (λ i. b ∷ take i (c ∷ l)) (sym short)

no_cr_more : (b c : ℕ) (l : List ℕ) → no_cr (b ∷ c ∷ l) ≡ b ∷ no_cr (c ∷ l)
no_cr_more b c l =
    ap (λ t. cond t (take (length (b ∷ c ∷ l) - 1) (b ∷ c ∷ l)) (b ∷ c ∷ l)) (last_more 13 b c l)
    ∙ ap (λ xs. cond (last_is 13 (c ∷ l)) xs (b ∷ c ∷ l)) (front_more b c l)
    ∙ cons_cond (last_is 13 (c ∷ l)) b (take (length (c ∷ l) - 1) (c ∷ l)) (c ∷ l)

bare_more : (b c : ℕ) (l : List ℕ) → without_terminator (b ∷ c ∷ l) ≡ cond (last_is 10 (c ∷ l)) (no_cr (b ∷ take (length (c ∷ l) - 1) (c ∷ l))) (b ∷ c ∷ l)
bare_more b c l =
    ap (λ t. cond t (no_cr (take (length (b ∷ c ∷ l) - 1) (b ∷ c ∷ l))) (b ∷ c ∷ l)) (last_more 10 b c l)
    ∙ ap (λ xs. cond (last_is 10 (c ∷ l)) (no_cr xs) (b ∷ c ∷ l)) (front_more b c l)

bare_long : (b c d : ℕ) (l : List ℕ) → without_terminator (b ∷ c ∷ d ∷ l) ≡ b ∷ without_terminator (c ∷ d ∷ l)
bare_long b c d l =
    bare_more b c (d ∷ l)
    ∙ ap (λ xs. cond (last_is 10 (c ∷ d ∷ l)) (no_cr (b ∷ xs)) (b ∷ c ∷ d ∷ l)) (front_more c d l)
    ∙ ap (λ xs. cond (last_is 10 (c ∷ d ∷ l)) xs (b ∷ c ∷ d ∷ l)) (no_cr_more b c (take (length (d ∷ l) - 1) (d ∷ l)))
    ∙ ap (λ xs. cond (last_is 10 (c ∷ d ∷ l)) (b ∷ no_cr xs) (b ∷ c ∷ d ∷ l)) (sym (front_more c d l))
    ∙ cons_cond (last_is 10 (c ∷ d ∷ l)) b (no_cr (take (length (c ∷ d ∷ l) - 1) (c ∷ d ∷ l))) (c ∷ d ∷ l)

-- a byte before a line that is no bare new-line
bare_cons : (b c : ℕ) (l : List ℕ) → eqb c 10 ≡ false → without_terminator (b ∷ c ∷ l) ≡ b ∷ without_terminator (c ∷ l)
bare_cons b c [] h = bare_more b c [] ∙ cond-false (eqb c 10) (no_cr (b ∷ [])) (b ∷ c ∷ []) h ∙ ap (λ xs. b ∷ xs) (sym (cond-false (eqb c 10) [] (c ∷ []) h))
bare_cons b c (d ∷ l) h = bare_long b c d l

-- ---- the lines

len_newline : (b : ℕ) (rest : List ℕ) → eqb b 10 ≡ true → line_len (b ∷ rest) ≡ 1
unfolding line_len
len_newline b rest h = cond-true (eqb b 10) 1 (suc (line_len rest)) h

len_more : (b : ℕ) (rest : List ℕ) → eqb b 10 ≡ false → line_len (b ∷ rest) ≡ suc (line_len rest)
unfolding line_len
len_more b rest h = cond-false (eqb b 10) 1 (suc (line_len rest)) h

len_nil : line_len [] ≡ 0
unfolding line_len
len_nil = refl

lines_newline : (b : ℕ) (rest : List ℕ) → eqb b 10 ≡ true → lines_of (b ∷ rest) ≡ (b ∷ []) ∷ lines_of rest
lines_newline b rest h =
    lines-step (b ∷ rest) (omega arith) ∙ ap (λ k. take k (b ∷ rest) ∷ lines_of (drop k (b ∷ rest))) (len_newline b rest h)

lines_more : (b : ℕ) (rest : List ℕ) → eqb b 10 ≡ false → lines_of (b ∷ rest) ≡ (b ∷ take (line_len rest) rest) ∷ lines_of (drop (line_len rest) rest)
lines_more b rest h =
    lines-step (b ∷ rest) (omega arith) ∙ ap (λ k. take k (b ∷ rest) ∷ lines_of (drop k (b ∷ rest))) (len_more b rest h)

last_line : (b : ℕ) → map without_terminator (lines_of (b ∷ [])) ≡ text_lines (b ∷ [])
last_line b =
    ⊎_elim
    (λ e. ap (map without_terminator) (lines_newline b [] e ∙ ap (λ ls. (b ∷ []) ∷ ls) lines-nil)
    ∙ ap (λ xs. xs ∷ []) (cond-true (eqb b 10) [] (b ∷ []) e)
    ∙ sym (cond-true (eqb b 10) ([] ∷ []) _ e))
    (λ e. ap (map without_terminator) (lines_more b [] e ∙ ap (λ k. (b ∷ take k []) ∷ lines_of (drop k [])) len_nil ∙ ap (λ ls. (b ∷ []) ∷ ls) lines-nil)
    ∙ ap (λ xs. xs ∷ []) (cond-false (eqb b 10) [] (b ∷ []) e)
    ∙ sym (cond-false (eqb b 10) ([] ∷ []) _ e ∙ cond-false ((eqb b 13) && false) [] ((b ∷ []) ∷ []) (and_right (eqb b 13) false refl)))
    (cases_Bool (eqb b 10))

-- before a new-line
before_newline : (b c : ℕ) (rest : List ℕ) → eqb b 10 ≡ false → eqb c 10 ≡ true → map without_terminator (lines_of (c ∷ rest)) ≡ text_lines (c ∷ rest)
    → map without_terminator (lines_of (b ∷ c ∷ rest)) ≡ text_lines (b ∷ c ∷ rest)
before_newline b c rest other h ih =
    let lines : List (List ℕ) = map without_terminator (lines_of rest) in
    let here : text_lines (c ∷ rest) ≡ [] ∷ lines =
    sym ih ∙ ap (map without_terminator) (lines_newline c rest h) ∙ ap (λ xs. xs ∷ lines) (cond-true (eqb c 10) [] (c ∷ []) h) in
    let first : without_terminator (b ∷ c ∷ []) ≡ cond (eqb b 13) [] (b ∷ []) = bare_more b c [] ∙ cond-true (eqb c 10) (no_cr (b ∷ [])) (b ∷ c ∷ []) h in
    ap (map without_terminator) (lines_more b (c ∷ rest) other ∙ ap (λ k. (b ∷ take k (c ∷ rest)) ∷ lines_of (drop k (c ∷ rest))) (len_newline c rest h))
    ∙ ap (λ xs. xs ∷ lines) first
    ∙ ⊎_elim
    (λ e. ap (λ xs. xs ∷ lines) (cond-true (eqb b 13) [] (b ∷ []) e)
    ∙ sym (cond-false (eqb b 10) ([] ∷ text_lines (c ∷ rest)) _ other
    ∙ cond-true ((eqb b 13) && (eqb c 10)) (text_lines (c ∷ rest)) (in_front (b ∷ []) (text_lines (c ∷ rest))) (and_from (eqb b 13) (eqb c 10) e h) ∙ here))
    (λ e. ap (λ xs. xs ∷ lines) (cond-false (eqb b 13) [] (b ∷ []) e)
    ∙ sym (cond-false (eqb b 10) ([] ∷ text_lines (c ∷ rest)) _ other
    ∙ cond-false ((eqb b 13) && (eqb c 10)) (text_lines (c ∷ rest)) (in_front (b ∷ []) (text_lines (c ∷ rest))) (and_left (eqb b 13) (eqb c 10) e)
    ∙ ap (in_front (b ∷ [])) here))
    (cases_Bool (eqb b 13))

-- within a line
within_line : (b c : ℕ) (rest : List ℕ) → eqb b 10 ≡ false → eqb c 10 ≡ false → map without_terminator (lines_of (c ∷ rest)) ≡ text_lines (c ∷ rest)
    → map without_terminator (lines_of (b ∷ c ∷ rest)) ≡ text_lines (b ∷ c ∷ rest)
within_line b c rest other h ih =
    let k : ℕ = line_len rest in
    let lines : List (List ℕ) = map without_terminator (lines_of (drop k rest)) in
    let here : text_lines (c ∷ rest) ≡ without_terminator (c ∷ take k rest) ∷ lines = sym ih ∙ ap (map without_terminator) (lines_more c rest h) in
    ap (map without_terminator) (lines_more b (c ∷ rest) other ∙ ap (λ i. (b ∷ take i (c ∷ rest)) ∷ lines_of (drop i (c ∷ rest))) (len_more c rest h))
    ∙ ap (λ xs. xs ∷ lines) (bare_cons b c (take k rest) h)
    ∙ sym (cond-false (eqb b 10) ([] ∷ text_lines (c ∷ rest)) _ other
    ∙ cond-false ((eqb b 13) && (eqb c 10)) (text_lines (c ∷ rest)) (in_front (b ∷ []) (text_lines (c ∷ rest))) (and_right (eqb b 13) (eqb c 10) h)
    ∙ ap (in_front (b ∷ [])) here)

pub cut_lines : (bytes : List ℕ) → map without_terminator (lines_of bytes) ≡ text_lines bytes
cut_lines [] = ap (map without_terminator) lines-nil
cut_lines (b ∷ []) = last_line b
cut_lines (b ∷ c ∷ rest) =
    let ih = cut_lines (c ∷ rest) in
    ⊎_elim
    (λ e. ap (map without_terminator) (lines_newline b (c ∷ rest) e)
    ∙ ap (λ xs. xs ∷ map without_terminator (lines_of (c ∷ rest))) (cond-true (eqb b 10) [] (b ∷ []) e)
    ∙ ap (λ ls. [] ∷ ls) ih ∙ sym (cond-true (eqb b 10) ([] ∷ text_lines (c ∷ rest)) _ e))
    (λ e. ⊎_elim (λ h. before_newline b c rest e h ih) (λ h. within_line b c rest e h ih) (cases_Bool (eqb c 10)))
    (cases_Bool (eqb b 10))

-- a text has at most as many lines as bytes
in_front_few : (front : List ℕ) (lines : List (List ℕ)) → length (in_front front lines) ≤ suc (length lines)
in_front_few front [] = omega arith
in_front_few front (line ∷ lines) = omega arith

pub text_lines_few : (bytes : List ℕ) → length (text_lines bytes) ≤ length bytes
text_lines_few [] = omega arith
text_lines_few (b ∷ bytes) =
    let few = text_lines_few bytes in
    let fits : List (List ℕ) → Type 0 = λ ls. length ls ≤ suc (length bytes) in
    cond_both (eqb b 10) ([] ∷ text_lines bytes) _ fits
    (λ e. omega arith)
    (λ e. cond_both ((eqb b 13) && begins_newline bytes) (text_lines bytes) (in_front (b ∷ []) (text_lines bytes)) fits
    (λ h. omega arith)
    (λ h. omega (arith, in_front_few (b ∷ []) (text_lines bytes))))

-- the line of a text of fewer bytes than its type holds
pub comes_line : (bytes : List ℕ) (r : Result Node (Fail YamlFault)) → Comes r (run_all (text_lines bytes)) → length bytes < 2 ^ 32 - 1
    → IfFault r (λ fault. IsFaultLine (text_lines bytes) fault.line)
comes_line bytes (Ok node) h few = tt
comes_line bytes (Err (Fault fault)) h few =
    let lines = text_lines_few bytes in line_told (text_lines bytes) fault (omega arith) (comes_refused (text_lines bytes) (Err (Fault fault)) h)
comes_line bytes (Err OutOfMemory) h few = tt
