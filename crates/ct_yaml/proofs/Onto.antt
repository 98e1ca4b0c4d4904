-- What was read before, and what is read from there on.
use Rattle.std.proofs.Common.{◌≡◌, ℕ, true, false, List, [], ◌∷◌, ◌++◌, Option, Some, None, refl, sym, ap, ◌∙◌, append_assoc, map, suc, ◌+◌, ◌<◌, length, drop, drop-cons, add-one}
use Rattle.std.proofs.Math.Seq.{drop-length}
use Rattle.ct_yaml.specs.declared.node.Node.{Node}
use Rattle.ct_yaml.specs.declared.node.Node.TheVariants.{Scalar}
use Rattle.ct_yaml.specs.declared.mark.Mark.{Mark}
use Rattle.ct_yaml.specs.Reading.{Found, mapped, onto, nodes_of, after_marks, then_read, element_at, elements_on, elements_at}

pub onto_nil : {A : Type 0} (found : Found (List A)) → onto [] found ≡ found
onto_nil None = refl
onto_nil (Some found) = refl

pub onto_append : {A : Type 0} (front : List A) (x : A) (found : Found (List A)) → onto (front ++ x ∷ []) found ≡ onto front (onto (x ∷ []) found)
onto_append front x None = refl
onto_append front x (Some found) = ap (λ v. Some (v, found.1)) (append_assoc front (x ∷ []) found.0)

-- a list that is read on, as nodes
pub onto_nodes : (front : List Node) (text : List ℕ) (found : Found (List (List ℕ)))
    → onto (front ++ Scalar text ∷ []) (nodes_of found) ≡ onto front (nodes_of (onto (text ∷ []) found))
onto_nodes front text None = refl
onto_nodes front text (Some found) = ap (λ v. Some (v, found.1)) (append_assoc front (Scalar text ∷ []) (map Scalar found.0))

pub after_nil : (found : Option (List Mark)) → after_marks [] found ≡ found
after_nil None = refl
after_nil (Some marks) = refl

pub after_append : (front : List Mark) (mark : Mark) (found : Option (List Mark))
    → after_marks (front ++ mark ∷ []) found ≡ after_marks front (mapped (λ marks. mark ∷ marks) found)
after_append front mark None = refl
after_append front mark (Some marks) = ap Some (append_assoc front (mark ∷ []) marks)

pub ruleset onto_rules = (onto_nil, onto_append, onto_nodes, after_nil, after_append)

-- ---- the elements of a flow list, with the rest of the bytes as fuel

pub elements_none : (i : ℕ) (bytes rest : List ℕ) → i < length bytes → element_at rest ≡ None → elements_at (drop i bytes) rest ≡ None
elements_none i bytes rest h e =
    ap (λ fuel. elements_at fuel rest) (drop-cons bytes i 0 h) ∙ ap (λ o. then_read o (elements_on (elements_at (drop (suc i) bytes)))) e

pub elements_last : (i : ℕ) (bytes rest text more : List ℕ) → i < length bytes → element_at rest ≡ Some (text, true, more)
    → elements_at (drop i bytes) rest ≡ Some (text ∷ [], more)
elements_last i bytes rest text more h e =
    ap (λ fuel. elements_at fuel rest) (drop-cons bytes i 0 h) ∙ ap (λ o. then_read o (elements_on (elements_at (drop (suc i) bytes)))) e

pub elements_more : (i : ℕ) (bytes rest text more : List ℕ) → i < length bytes → element_at rest ≡ Some (text, false, more)
    → elements_at (drop i bytes) rest ≡ onto (text ∷ []) (elements_at (drop (i + 1) bytes) more)
elements_more i bytes rest text more h e =
    ap (λ fuel. elements_at fuel rest) (drop-cons bytes i 0 h) ∙ ap (λ o. then_read o (elements_on (elements_at (drop (suc i) bytes)))) e
    ∙ ap (λ k. onto (text ∷ []) (elements_at (drop k bytes) more)) (sym (add-one i))

pub elements_end : (bytes rest : List ℕ) → elements_at (drop (length bytes) bytes) rest ≡ None
elements_end bytes rest = ap (λ fuel. elements_at fuel rest) (drop-length bytes)

pub ruleset element_rules = (elements_none, elements_last, elements_more, elements_end)
