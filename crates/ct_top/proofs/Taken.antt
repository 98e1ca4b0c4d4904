-- What a sink took so far, over several writes.
use Rattle.std.proofs.Common.{◌≡◌, ℕ, ◌+◌, ◌-◌, List, ◌++◌, length, take, drop, ap, sym, ◌∙◌, append_assoc, subst, length-drop}
use Rattle.std.specs.Prelude.{Option, Some, None}
use Rattle.std.specs.Option.{option_map}
use Rattle.std.proofs.lemmas.List.{take-append-drop}
use Rattle.std.proofs.Math.Seq.{take-add, take-length}
use Rattle.ct_outside.specs.Taken.{Took, TookFront}

-- the piece of a text from a place on
whole_rest : (text : List ℕ) (at : ℕ) → take (length text - at) (drop at text) ≡ drop at text
whole_rest text at = rw (← length-drop at text) (take-length (drop at text))

-- a front, and then the next bytes: a longer front
longer : (before now next : Option (List ℕ)) (text : List ℕ) (at count : ℕ)
    → Took before now (take at text) → Took now next (take count (drop at text)) → Took before next (take (at + count) text)
longer None now next text at count p q = q ∙ ap (option_map (λ taken. taken ++ take count (drop at text))) p
longer (Some taken) now next text at count p q =
    q ∙ ap (option_map (λ taken. taken ++ take count (drop at text))) p
    ∙ ap Some (append_assoc taken (take at text) (take count (drop at text)) ∙ ap (λ x. taken ++ x) (sym (take-add at count text)))

pub took_more : (before now next : Option (List ℕ)) (text : List ℕ) (at count : ℕ)
    → Took before now (take at text) → Took now next (take count (take (length text - at) (drop at text)))
    → Took before next (take (at + count) text)
took_more before now next text at count p q =
    longer before now next text at count p (subst (λ piece. Took now next (take count piece)) (whole_rest text at) q)

-- what was taken is a front of the text
pub took_front : (before now : Option (List ℕ)) (text : List ℕ) (at : ℕ) → Took before now (take at text) → TookFront before now text
took_front before now text at took = (take at text, drop at text, sym (take-append-drop at text), took)
