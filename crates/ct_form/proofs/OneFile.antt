-- A test file has one core unit, or one first token outside the form.
use Rattle.std.proofs.Common.{◌≡◌, ℕ, Bool, List, [], ◌∷◌, ◌++◌, All, false, refl, sym, ap, ◌∙◌, append_assoc}
use Rattle.std.specs.Prelude.{Option, Some, None, Result, Ok, Err, IsTrue, codes}
use Rattle.std.proofs.lemmas.List.Elements.{All-head, All-tail}
use Rattle.ct_base.specs.declared.lexical.Token.{Token}
use Rattle.ct_core.specs.declared.units.CoreFunction.{CoreFunction}
use Rattle.ct_core.specs.declared.units.Linkage.{Linkage}
use Rattle.ct_core.specs.declared.units.CoreUnit.{CoreUnit}
use Rattle.ct_form.specs.declared.names.Signature.{Signature}
use Rattle.ct_form.specs.declared.outside.Outside.{Outside}
use Rattle.ct_form.specs.Words.{Stands, first_word, is_line}
use Rattle.ct_form.specs.Functions.{IsLinkage, IsResult, external, internal, nothing, value}
use Rattle.ct_form.specs.Form.{SpellEach, include_words, StandsInclude, Before, StandsFunction, with_function, led_by, Reads, ends, include, function, outside, unit_of, outside_of, HasForm}
use Rattle.ct_form.proofs.OneWord.{one_rest, not_both, pair_parts}
use Rattle.ct_form.proofs.OneFunction.{one_function}

pub first_word-lines : (lines : List Token) (t : Token) (after : List Token) → All (λ token. IsTrue (is_line token)) lines → is_line t ≡ false
    → first_word (lines ++ t ∷ after) ≡ Some (t, after)
first_word-lines [] t after h e = rw e
first_word-lines (x ∷ lines) t after h e =
    rw (All-head (λ y. IsTrue (is_line y)) x lines h) (first_word-lines lines t after (All-tail (λ y. IsTrue (is_line y)) x lines h) e)

-- the three tokens of a directive
three : (directive rest : List Token) → SpellEach include_words directive
    → (hash a b : Token) × (directive ++ rest ≡ hash ∷ a ∷ b ∷ rest) × (is_line hash ≡ false) × (hash.text ≡ codes "#")
three [] rest f = absurd f
three (hash ∷ []) rest f = absurd f.2
three (hash ∷ a ∷ []) rest f = absurd f.2.2
three (hash ∷ a ∷ b ∷ []) rest f = (hash, a, b, refl, f.0, f.1)
three (hash ∷ a ∷ b ∷ x ∷ directive) rest f = absurd f.2.2.2

-- an include begins with its `#`, and two more tokens stand before what follows it
pub hash_of : {is_first : Bool} {ts rest : List Token} → StandsInclude is_first ts rest → (a b : Token) × Stands (codes "#") ts (a ∷ b ∷ rest)
hash_of {rest = rest} s =
    let d = three s.directive rest s.spelled in
    let split = s.split ∙ append_assoc s.lines s.directive rest ∙ ap (λ l. s.lines ++ l) d.3 in (
      d.1,
      d.2,
      record {
        token = d.0;
        first = ap first_word split ∙ first_word-lines s.lines d.0 (d.1 ∷ d.2 ∷ rest) s.are_lines d.4;
        spelled = d.5;
      },
    )

behind_two : {a b a' b' : Token} {r r' : List Token} → (a ∷ b ∷ r) ≡ (a' ∷ b' ∷ r') → r ≡ r'
behind_two e = cc

one_include : {is_first : Bool} {ts r r' : List Token} → StandsInclude is_first ts r → StandsInclude is_first ts r' → r ≡ r'
one_include s s' = behind_two (one_rest (hash_of s).2 (hash_of s').2)

linkage_or_hash : {ts rest behind : List Token} {l : Linkage} {v : Bool} {ending : List Token} → IsLinkage ts l rest → IsResult rest v ending → Stands (codes "#") ts behind → ⊥
linkage_or_hash (external a) (nothing w) h = not_both w h refl
linkage_or_hash (external a) (value w) h = not_both w h refl
linkage_or_hash (internal w) r h = not_both w h refl

-- no function is an include
function_or_include : {before : Before} {ts rest rest' : List Token} {f : CoreFunction} {s : Signature} {next : ℕ}
    → StandsFunction before ts f s next rest → StandsInclude before.is_first ts rest' → ⊥
function_or_include h i = linkage_or_hash h.1.is_linkage h.1.is_result (hash_of i).2

none_or_some : {A : Type 0} {o : Option A} {x : A} → o ≡ None → o ≡ Some x → ⊥
none_or_some p q = cc

linkage_or_end : {ts rest : List Token} {l : Linkage} {v : Bool} {ending : List Token} → IsLinkage ts l rest → IsResult rest v ending → first_word ts ≡ None → ⊥
linkage_or_end (external a) (nothing w) e = none_or_some e w.first
linkage_or_end (external a) (value w) e = none_or_some e w.first
linkage_or_end (internal w) r e = none_or_some e w.first

same_err : {token token' : Token} → token ≡ token' → ◌≡◌ {A = Result (List CoreFunction) Token} (Err token) (Err token')
same_err p = ap (λ (t : Token). Err t) p

same_led : {f f' : CoreFunction} {o o' : Result (List CoreFunction) Token} → f ≡ f' → o ≡ o' → led_by f o ≡ led_by f' o'
same_led p q = rw (p, q)

Reads-at : {before before' : Before} {ts ts' : List Token} {o : Result (List CoreFunction) Token} → before ≡ before' → ts ≡ ts' → Reads before' ts' o → Reads before ts o
Reads-at p q h = rw (p, q) h

same_before : (before : Before) {s s' : Signature} {n n' : ℕ} → s ≡ s' → n ≡ n' → with_function before s n ≡ with_function before s' n'
same_before before p q = rw (p, q)

pub one_reading : {before : Before} {ts : List Token} {o o' : Result (List CoreFunction) Token} → Reads before ts o → Reads before ts o' → o ≡ o'
one_reading (ends e) (ends e') = refl
one_reading (ends e) (include i' r') = absurd (none_or_some e (hash_of i').2.first)
one_reading (ends e) (function f' r') = absurd (linkage_or_end f'.1.is_linkage f'.1.is_result e)
one_reading (ends e) (outside t' i' f') = absurd (none_or_some e t')
one_reading (include i r) (ends e') = absurd (none_or_some e' (hash_of i).2.first)
one_reading (include i r) (include i' r') = one_reading r (Reads-at refl (one_include i i') r')
one_reading (include i r) (function f' r') = absurd (function_or_include f' i)
one_reading (include i r) (outside t' i' f') = absurd (i' _ i)
one_reading (function f r) (ends e') = absurd (linkage_or_end f.1.is_linkage f.1.is_result e')
one_reading (function f r) (include i' r') = absurd (function_or_include f i')
one_reading {before = before} (function f r) (function f' r') =
    let e = one_function f.1 f'.1 in
    same_led e.0 (one_reading r (Reads-at (same_before before e.1 e.2) e.3 r'))
one_reading (function f r) (outside t' i' f') = absurd (f' _ _ _ _ f)
one_reading (outside t i f) (ends e') = absurd (none_or_some e' t)
one_reading (outside t i f) (include i' r') = absurd (i _ i')
one_reading (outside t i f) (function f' r') = absurd (f _ _ _ _ f')
one_reading (outside t i f) (outside t' i' f') = same_err (pair_parts t t').0

ok_parts : {a b : List CoreFunction} → ◌≡◌ {A = Result (List CoreFunction) Token} (Ok a) (Ok b) → a ≡ b
ok_parts e = cc

err_parts : {a b : Token} → ◌≡◌ {A = Result (List CoreFunction) Token} (Err a) (Err b) → a ≡ b
err_parts e = cc

ok_or_err : {a : List CoreFunction} {b : Token} → ◌≡◌ {A = Result (List CoreFunction) Token} (Ok a) (Err b) → ⊥
ok_or_err e = cc

same_ok : (path : List ℕ) {a b : List CoreFunction} {u v : CoreUnit} → a ≡ b → u ≡ unit_of path a → v ≡ unit_of path b → ◌≡◌ {A = Result CoreUnit Outside} (Ok u) (Ok v)
same_ok path e p q = ap (λ (u : CoreUnit). Ok u) (p ∙ ap (unit_of path) e ∙ sym q)

same_refusal : {a b : Token} {u v : Outside} → a ≡ b → u ≡ outside_of a → v ≡ outside_of b → ◌≡◌ {A = Result CoreUnit Outside} (Err u) (Err v)
same_refusal e p q = ap (λ (u : Outside). Err u) (p ∙ ap outside_of e ∙ sym q)

pub one_form : (path : List ℕ) (tokens : List Token) (a b : Result CoreUnit Outside) → HasForm path tokens a → HasForm path tokens b → a ≡ b
one_form path tokens (Ok u) (Ok v) p q = same_ok path (ok_parts (one_reading p.1 q.1)) p.2 q.2
one_form path tokens (Ok u) (Err y) p q = absurd (ok_or_err (one_reading p.1 q.1))
one_form path tokens (Err x) (Ok v) p q = absurd (ok_or_err (one_reading q.1 p.1))
one_form path tokens (Err x) (Err y) p q = same_refusal (err_parts (one_reading p.1 q.1)) p.2 q.2
