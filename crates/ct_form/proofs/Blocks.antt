-- How far a block is read, and what reading goes on or ends.
use Rattle.std.proofs.Common.{◌≡◌, ℕ, ◌<◌, ◌≤◌, Bool, List, [], ◌∷◌, ◌++◌, length, take, drop, refl, sym, ap, ◌∙◌, append_assoc, arith}
use Rattle.std.proofs.Math.Seq.{take-length, drop-length}
use Rattle.std.proofs.lemmas.List.{take-append-le, drop-append-le, take-append-drop, length-append}
use Rattle.std.specs.Prelude.{Option, codes}
use Rattle.ct_base.specs.declared.lexical.Token.{Token}
use Rattle.ct_core.specs.declared.trees.CoreExpression.{CoreExpression}
use Rattle.ct_core.specs.declared.trees.CoreStatement.{CoreStatement}
use Rattle.ct_core.specs.declared.trees.CoreStatement.TheVariants.{Declare}
use Rattle.ct_form.specs.declared.names.Binding.{Binding}
use Rattle.ct_form.specs.declared.names.Signature.{Signature}
use Rattle.ct_form.specs.Words.{Nothing, Stands, Absent}
use Rattle.ct_form.specs.Expressions.{int}
use Rattle.ct_form.specs.Readers.{IsDeclaration}
use Rattle.ct_form.specs.Statements.{At, IsStatement, IsBody, close, declaration, statement, mark, begun, moved, binding, declared}
use Rattle.ct_form.proofs.OneWord.{one_rest, not_both, one_name, Stands-shorter, StandsName-shorter}
use Rattle.ct_form.proofs.OneExpression.{Stands-at}
use Rattle.ct_form.proofs.OneStatement.{one_start, one_statement, StandsName-at, IsStart-of, IsBody-at}
use Rattle.ct_form.proofs.ShorterStatement.{start-shorter}

append-nil : {A : Type 0} (xs : List A) → xs ++ [] ≡ xs
append-nil [] = refl
append-nil (x ∷ xs) = ap (λ ys. x ∷ ys) (append-nil xs)

same_declared : (at : At) {name name' : Token} {t t' : List Token} → name ≡ name' → t ≡ t' → declared (begun at t) name ≡ declared (begun at t') name'
same_declared at p q = rw (p, q)

new_scope : (outer : ℕ) (scope : List Binding) (b : Binding) {new : List Binding} → new ≡ take outer scope ++ drop outer scope ++ b ∷ [] → new ≡ scope ++ b ∷ []
new_scope outer scope b e =
    e ∙ ap (λ l. l ++ b ∷ []) (take-append-drop outer scope)

same_take : (outer : ℕ) (scope : List Binding) (b : Binding) {new : List Binding} → outer ≤ length scope → new ≡ scope ++ b ∷ [] → take outer new ≡ take outer scope
same_take outer scope b h e = ap (take outer) e ∙ take-append-le outer scope (b ∷ []) h

more_drop : (outer : ℕ) (scope : List Binding) (b : Binding) {new : List Binding} → outer ≤ length scope → new ≡ scope ++ b ∷ [] → drop outer new ≡ drop outer scope ++ b ∷ []
more_drop outer scope b h e = ap (drop outer) e ∙ drop-append-le outer scope (b ∷ []) h

longer : (outer : ℕ) (scope : List Binding) (b : Binding) {new : List Binding} → outer ≤ length scope → new ≡ scope ++ b ∷ [] → outer ≤ length new
longer outer scope b h e = omega (arith, ap length e ∙ length-append scope (b ∷ []))

same_core : (at : At) {x x' : Option CoreExpression} {core : CoreStatement} (c : List CoreStatement) → x ≡ x' → core ≡ Declare (mark at) (length at.variables) int x
    → Declare (mark at) (length at.variables) int x' ∷ c ≡ core ∷ c
same_core at c p e = rw (e, p)

one_more : {A : Type 0} (xs ys zs : List A) (x : A) → ys ≡ xs ++ zs → (rest : List A) → zs ≡ x ∷ rest → ys ≡ (xs ++ x ∷ []) ++ rest
one_more xs ys zs x e rest f = e ∙ ap (λ l. xs ++ l) f ∙ sym (append_assoc xs (x ∷ []) rest)

-- a block begins with the whole scope around it, and none of its own
pub whole_take : (n : ℕ) (scope : List Binding) → n ≡ length scope → take n scope ≡ scope
whole_take n scope e = ap (λ n. take n scope) e ∙ take-length scope

pub no_drop : (n : ℕ) (scope : List Binding) → n ≡ length scope → drop n scope ≡ []
no_drop n scope e = ap (λ n. drop n scope) e ∙ drop-length scope

module _ (signatures : List Signature) (unity gives_value : Bool) where
  IsDeclaration-of : {scope scope' own : List Binding} {at after : At} {behind : List Token} {core : CoreStatement} {name : Token}
      → scope ≡ scope' → IsDeclaration signatures scope' own at behind core name after → IsDeclaration signatures scope own at behind core name after
  IsDeclaration-of p h = rw p h

  IsStatement-of : {room : ℕ} {scope scope' : List Binding} {at after : At} {c : CoreStatement}
      → scope ≡ scope' → IsStatement signatures unity gives_value room scope' at c after → IsStatement signatures unity gives_value room scope at c after
  IsStatement-of p h = rw p h

  regrouped : {room : ℕ} {scope own : List Binding} {at ending : At} (numbers : List ℕ) (number number' : ℕ) (n : List ℕ) (parts : List CoreStatement) (core : CoreStatement) (c : List CoreStatement)
      → number ≡ number' → IsBody signatures unity gives_value room scope own at (numbers ++ number' ∷ n) (parts ++ core ∷ c) ending
      → IsBody signatures unity gives_value room scope own at ((numbers ++ number ∷ []) ++ n) ((parts ++ core ∷ []) ++ c) ending
  regrouped numbers number number' n parts core c e h = rw (append_assoc numbers (number ∷ []) n, append_assoc parts (core ∷ []) c, e) h

  one_part : {room : ℕ} {scope own : List Binding} {at ending : At} (n : List ℕ) (parts : List CoreStatement) (core : CoreStatement) (c : List CoreStatement)
      → IsBody signatures unity gives_value room scope own at n (parts ++ core ∷ c) ending
      → IsBody signatures unity gives_value room scope own at n ((parts ++ core ∷ []) ++ c) ending
  one_part n parts core c h = rw (append_assoc parts (core ∷ []) c) h

  -- what follows a declaration in a body
  record Behind (room : ℕ) (scope own : List Binding) (at after ending : At) (core : CoreStatement) (numbers n : List ℕ) (c : List CoreStatement) : Type 0 where
    later : List ℕ
    parts : List CoreStatement
    n_is : n ≡ numbers ++ later
    c_is : c ≡ core ∷ parts
    body : IsBody signatures unity gives_value room scope own after later parts ending

  declared_forth : {room : ℕ} {scope own : List Binding} {at after ending : At} {behind : List Token} {core : CoreStatement} {name : Token} {n : List ℕ} {c : List CoreStatement}
      → Stands (codes "int") at.tokens behind → IsDeclaration signatures scope own at behind core name after
      → IsBody signatures unity gives_value room scope (own ++ binding at name ∷ []) after n c ending
      → IsBody signatures unity gives_value room scope own at (length at.variables ∷ n) (core ∷ c) ending
  declared_forth w h b = rw h.core_is (declaration w h.is_name h.is_new h.room h.is_start h.closed (IsBody-at signatures unity gives_value refl (sym h.after_is) b))

  declared_back : {room : ℕ} {scope own : List Binding} {at after ending : At} {behind : List Token} {core : CoreStatement} {name : Token} {n : List ℕ} {c : List CoreStatement}
      → Stands (codes "int") at.tokens behind → IsDeclaration signatures scope own at behind core name after
      → IsBody signatures unity gives_value room scope own at n c ending → Behind room scope (own ++ binding at name ∷ []) at after ending core (length at.variables ∷ []) n c
  declared_back w h (close w') = absurd (not_both w w' refl)
  declared_back {scope = scope} {own = own} {at = at} w h (declaration {numbers = n'} {parts = c'} w' v' d' l' x' z' b') =
      let i = one_rest w w' in
      let m = one_name h.is_name (StandsName-at i v') in
      let y = one_start signatures _ h.is_start (IsStart-of signatures scope own at m.0 m.1 x') in
      let j = one_rest h.closed (Stands-at signatures scope y.1 z') in
      record {
        later = n';
        parts = c';
        n_is = refl;
        c_is = same_core at c' y.0 h.core_is;
        body = IsBody-at signatures unity gives_value (ap (λ (t : Token). own ++ binding at t ∷ []) m.0) (h.after_is ∙ same_declared at m.0 j) b';
      }
  declared_back w h (statement a' i' s' b') = absurd (i' _ w)

  stated_back : {room : ℕ} {scope own : List Binding} {at middle ending : At} {core : CoreStatement} {n : List ℕ} {c : List CoreStatement}
      → Absent (codes "}") at.tokens → Absent (codes "int") at.tokens → IsStatement signatures unity gives_value room (scope ++ own) at core middle
      → IsBody signatures unity gives_value room scope own at n c ending → Behind room scope own at middle ending core [] n c
  stated_back a i s (close w') = absurd (a _ w')
  stated_back a i s (declaration w' v' d' l' x' z' b') = absurd (i _ w')
  stated_back {n = n} a i s (statement {parts = c'} a' i' s' b') =
      let e = one_statement signatures unity gives_value s s' in
      record { later = n; parts = c'; n_is = refl; c_is = ap (λ x. x ∷ c') (sym e.0); body = IsBody-at signatures unity gives_value refl e.1 b' }

  -- A block is read from its first place up to some parts, with the scope then and a place: it goes on from there, and in
  -- no other way. Behind `outer` the scope has the block's own declarations.
  pub record BlockReads (outer : ℕ) (first : List Binding) (start : At) (room : ℕ) (numbers : List ℕ) (parts : List CoreStatement) (scope : List Binding) (at : At) : Type 0 where
    pub kept : take outer scope ≡ take outer first
    pub bound : outer ≤ length scope
    pub forth : (n : List ℕ) (c : List CoreStatement) (ending : At) → IsBody signatures unity gives_value room (take outer first) (drop outer scope) at n c ending
        → IsBody signatures unity gives_value room (take outer first) (drop outer first) start (numbers ++ n) (parts ++ c) ending
    pub back : (n : List ℕ) (c : List CoreStatement) (ending : At) → IsBody signatures unity gives_value room (take outer first) (drop outer first) start n c ending
        → (n' : List ℕ) × (c' : List CoreStatement) × (n ≡ numbers ++ n') × (c ≡ parts ++ c')
        × IsBody signatures unity gives_value room (take outer first) (drop outer scope) at n' c' ending

  pub BlockReads-to : {outer : ℕ} {first : List Binding} {start : At} {room : ℕ} {numbers numbers' : List ℕ} {parts parts' : List CoreStatement} {scope : List Binding} {at : At}
      → numbers ≡ numbers' → parts ≡ parts' → BlockReads outer first start room numbers' parts' scope at → BlockReads outer first start room numbers parts scope at
  BlockReads-to p q h = rw (p, q) h

  pub block_begins : (outer : ℕ) (first : List Binding) (start : At) (room : ℕ) → outer ≤ length first → BlockReads outer first start room [] [] first start
  block_begins outer first start room h = record {
    kept = refl;
    bound = h;
    forth = λ n c ending b. b;
    back = λ n c ending b. (n, c, refl, refl, b);
  }

  pub block_declares : {outer : ℕ} {first : List Binding} {start : At} {room : ℕ} {numbers : List ℕ} {parts : List CoreStatement} {scope : List Binding} {at : At}
      {behind : List Token} {core : CoreStatement} {name : Token} {after : At} {new : List Binding} {number : ℕ}
      → BlockReads outer first start room numbers parts scope at → Stands (codes "int") at.tokens behind
      → IsDeclaration signatures (take outer scope) (drop outer scope) at behind core name after
      → new ≡ take outer scope ++ drop outer scope ++ binding at name ∷ [] → number ≡ length at.variables
      → BlockReads outer first start room (numbers ++ number ∷ []) (parts ++ core ∷ []) new after
  block_declares {outer} {first} {start} {room} {numbers} {parts} {scope} {at} {core = core} {name = name} {new = new} {number = number} r w h e k =
      let g = new_scope outer scope (binding at name) e in
      let d = more_drop outer scope (binding at name) r.bound g in
      let here = IsDeclaration-of (sym r.kept) h in
      record {
        kept = same_take outer scope (binding at name) r.bound g ∙ r.kept;
        bound = longer outer scope (binding at name) r.bound g;
        forth = λ n c ending b. regrouped numbers number _ n parts core c k
            (r.forth _ _ ending (declared_forth w here (IsBody-at signatures unity gives_value (sym d) refl b)));
        back = λ n c ending b.
            let p = r.back n c ending b in
            let q = declared_back w here p.4 in (
              q.later,
              q.parts,
              one_more numbers n p.0 number p.2 q.later (q.n_is ∙ ap (λ x. x ∷ q.later) (sym k)),
              one_more parts c p.1 core p.3 q.parts q.c_is,
              IsBody-at signatures unity gives_value d refl q.body,
            );
      }

  whole_scope : {outer : ℕ} {first : List Binding} {start : At} {room : ℕ} {numbers : List ℕ} {parts : List CoreStatement} {scope : List Binding} {at : At}
      → BlockReads outer first start room numbers parts scope at → take outer first ++ drop outer scope ≡ scope
  whole_scope {outer} {first} {scope = scope} r = ap (λ l. l ++ drop outer scope) (sym r.kept) ∙ take-append-drop outer scope

  pub block_states : {outer : ℕ} {first : List Binding} {start : At} {room : ℕ} {numbers : List ℕ} {parts : List CoreStatement} {scope : List Binding} {at : At}
      {core : CoreStatement} {after : At} {new : List Binding}
      → BlockReads outer first start room numbers parts scope at → Absent (codes "}") at.tokens → Absent (codes "int") at.tokens
      → IsStatement signatures unity gives_value room scope at core after → new ≡ scope
      → BlockReads outer first start room numbers (parts ++ core ∷ []) new after
  block_states {outer} {first} {start} {room} {numbers} {parts} {scope} {at} {core} {new = new} r a i s e =
      let here = IsStatement-of (whole_scope r) s in
      let d = ap (drop outer) e in
      record {
        kept = ap (take outer) e ∙ r.kept;
        bound = omega (arith, ap length e, r.bound);
        forth = λ n c ending b. one_part (numbers ++ n) parts core c
            (r.forth n (core ∷ c) ending (statement a i here (IsBody-at signatures unity gives_value (sym d) refl b)));
        back = λ n c ending b.
            let p = r.back n c ending b in
            let q = stated_back a i here p.4 in
            (q.later, q.parts, p.2 ∙ ap (λ l. numbers ++ l) q.n_is, one_more parts c p.1 core p.3 q.parts q.c_is, IsBody-at signatures unity gives_value d refl q.body);
      }

  without_end : {room : ℕ} {scope own : List Binding} {at ending : At} (n : List ℕ) (c : List CoreStatement)
      → IsBody signatures unity gives_value room scope own at (n ++ []) (c ++ []) ending → IsBody signatures unity gives_value room scope own at n c ending
  without_end n c h = rw (append-nil n, append-nil c) at h

  pub block_closes : {outer : ℕ} {first : List Binding} {start : At} {room : ℕ} {numbers : List ℕ} {parts : List CoreStatement} {scope : List Binding} {at after : At} {rest : List Token}
      → BlockReads outer first start room numbers parts scope at → Stands (codes "}") at.tokens rest → after ≡ moved at rest
      → IsBody signatures unity gives_value room (take outer first) (drop outer first) start numbers parts after
  block_closes {numbers = numbers} {parts = parts} r w e = rw e (without_end numbers parts (r.forth [] [] _ (close w)))

  bad_declaration : {room : ℕ} {scope own : List Binding} {at ending : At} {behind : List Token} {n : List ℕ} {c : List CoreStatement}
      → Stands (codes "int") at.tokens behind → ((core : CoreStatement) (name : Token) (after : At) → IsDeclaration signatures scope own at behind core name after → ⊥)
      → IsBody signatures unity gives_value room scope own at n c ending → ⊥
  bad_declaration w none (close w') = not_both w w' refl
  bad_declaration {scope = scope} {own = own} {at = at} w none (declaration {name = name} {middle = middle} {ending = ending} {rest = rest} {start = start} w' v' d' l' x' z' b') =
      none _ name _ (record {
        middle = middle;
        ending = ending;
        rest = rest;
        start = start;
        is_name = StandsName-at (one_rest w w') v';
        is_new = d';
        room = l';
        is_start = x';
        closed = z';
        core_is = refl;
        after_is = refl;
      })
  bad_declaration w none (statement a' i' s' b') = i' _ w

  pub block_bad_declaration : {outer : ℕ} {first : List Binding} {start : At} {room : ℕ} {numbers : List ℕ} {parts : List CoreStatement} {scope : List Binding} {at : At} {behind : List Token}
      → BlockReads outer first start room numbers parts scope at → Stands (codes "int") at.tokens behind
      → Nothing {C = CoreStatement × List Binding} {R = At} (λ what after. (name : Token) × IsDeclaration signatures (take outer scope) (drop outer scope) at behind what.0 name after
      × (what.1 ≡ take outer scope ++ drop outer scope ++ binding at name ∷ []))
      → Nothing {C = List ℕ × List CoreStatement} {R = At} (λ what. IsBody signatures unity gives_value room (take outer first) (drop outer first) start what.0 what.1)
  block_bad_declaration r w none what ending b =
      let p = r.back what.0 what.1 ending b in
      bad_declaration w (λ core name after h. none (core, _) after (name, IsDeclaration-of r.kept h, refl)) p.4

  bad_statement : {room : ℕ} {scope own : List Binding} {at ending : At} {n : List ℕ} {c : List CoreStatement}
      → Absent (codes "}") at.tokens → Absent (codes "int") at.tokens → Nothing (IsStatement signatures unity gives_value room (scope ++ own) at)
      → IsBody signatures unity gives_value room scope own at n c ending → ⊥
  bad_statement a i none (close w') = a _ w'
  bad_statement a i none (declaration w' v' d' l' x' z' b') = i _ w'
  bad_statement a i none (statement a' i' s' b') = none _ _ s'

  pub block_bad_statement : {outer : ℕ} {first : List Binding} {start : At} {room : ℕ} {numbers : List ℕ} {parts : List CoreStatement} {scope : List Binding} {at : At}
      → BlockReads outer first start room numbers parts scope at → Absent (codes "}") at.tokens → Absent (codes "int") at.tokens
      → Nothing (IsStatement signatures unity gives_value room scope at)
      → Nothing {C = List ℕ × List CoreStatement} {R = At} (λ what. IsBody signatures unity gives_value room (take outer first) (drop outer first) start what.0 what.1)
  block_bad_statement r a i none what ending b =
      let p = r.back what.0 what.1 ending b in
      bad_statement a i (λ core after s. none core after (IsStatement-of (sym (whole_scope r)) s)) p.4

-- what follows a declaration is shorter
pub declaration-shorter : {signatures : List Signature} {scope own : List Binding} {at after : At} {behind : List Token} {core : CoreStatement} {name : Token}
    → Stands (codes "int") at.tokens behind → IsDeclaration signatures scope own at behind core name after → length after.tokens < length at.tokens
declaration-shorter {signatures} w h =
    let a = Stands-shorter w in
    let b = StandsName-shorter h.is_name in
    let c = start-shorter signatures _ h.is_start in
    let d = Stands-shorter h.closed in
    let e = ap (λ (at : At). length at.tokens) h.after_is in
    omega arith
