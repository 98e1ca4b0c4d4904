-- Which definitions are well formed, when two are the same, and the table of macros (C11 6.10.3p1 to p7).
use Rattle.std.specs.Prelude.{◌≡◌, ℕ, not, ◌&&◌, ◌||◌, Bool, false, List, [], ◌∷◌, ◌++◌, Option, Some, None, MatchOption, map, find, filter}
use Rattle.std.specs.List.{list_any}
use Rattle.std.specs.Str.{bytes_eq}
use Rattle.ct_base.specs.declared.lexical.Token.{Token}
use Rattle.ct_macro_call.specs.declared.definition.Macro.{Macro}
use Rattle.ct_macro_call.specs.Words.{is_hash, is_paste, variable_arguments, parameters_of}

-- ---- the form of a definition

abbrev pub ends_in_paste : Token → List Token → Bool
ends_in_paste token [] = is_paste token
ends_in_paste token (next ∷ tokens) = ends_in_paste next tokens

-- `##` stands first or last (6.10.3.3p1)
abbrev pub has_outer_paste : List Token → Bool
has_outer_paste [] = false
has_outer_paste (first ∷ rest) = is_paste first || ends_in_paste first rest

abbrev pub is_name_of : List (List ℕ) → Token → Bool
is_name_of names token = list_any (bytes_eq token.text) names

abbrev pub begins_with_name : List (List ℕ) → List Token → Bool
begins_with_name names [] = false
begins_with_name names (token ∷ tokens) = is_name_of names token

-- a `#` stands before no parameter (6.10.3.2p1)
abbrev pub has_stray_hash : List (List ℕ) → List Token → Bool
has_stray_hash names [] = false
has_stray_hash names (token ∷ tokens) =
    (is_hash token && not (begins_with_name names tokens)) || has_stray_hash names tokens

-- a name stands twice (6.10.3p6)
abbrev pub has_double : List (List ℕ) → Bool
has_double [] = false
has_double (name ∷ names) = list_any (bytes_eq name) names || has_double names

abbrev pub is_variable : Token → Bool
is_variable token = bytes_eq token.text variable_arguments

-- what is wrong with a body, in which `#` is an operator where the macro is function-like, and `__VA_ARGS__` stands
-- only where the parameter list ends in `...` (6.10.3p5)
abbrev pub has_bad_body : Option (List (List ℕ)) → List Token → Bool
has_bad_body None body = list_any is_variable body
has_bad_body (Some names) body =
    has_stray_hash names body || (list_any is_variable body && not (list_any (bytes_eq variable_arguments) names))

-- the parameter list names one twice; `__VA_ARGS__` is no name of a parameter, and counts as the name of `...`
abbrev pub has_bad_parameters : Option (List (List ℕ)) → Bool
has_bad_parameters None = false
has_bad_parameters (Some names) = has_double names

abbrev pub names_variable : Option (List (List ℕ)) → Bool
names_variable None = false
names_variable (Some names) = list_any (bytes_eq variable_arguments) names

abbrev pub is_malformed : Macro → Bool
is_malformed definition =
    bytes_eq definition.name variable_arguments || has_outer_paste definition.body || names_variable definition.parameters
    || has_bad_parameters definition.parameters || has_bad_body (parameters_of definition) definition.body

-- ---- the table

abbrev pub separated : Token → List ℕ × Bool
separated token = (token.text, token.spaced)

-- how a replacement list is spelled: the tokens, and which of them white space separates from the one before
-- (6.10.3p1); white space before the first is no part of it (6.10.3p7)
abbrev pub spelling : List Token → List (List ℕ × Bool)
spelling [] = []
spelling (first ∷ rest) = (first.text, false) ∷ map separated rest

-- two definitions of one name that are the same (6.10.3p2)
pub record SameDefinition (one other : Macro) : Type 0 where
  pub parameters : one.parameters ≡ other.parameters
  pub variadic : one.variadic ≡ other.variadic
  pub body : spelling one.body ≡ spelling other.body

abbrev pub is_named : List ℕ → Macro → Bool
is_named name definition = bytes_eq name definition.name

-- the macro of a name, in a table that has each name once
abbrev pub macro_named : List ℕ → List Macro → Option Macro
macro_named name macros = find (is_named name) macros

-- the table after a definition that is not refused: the same definition may stand already
abbrev pub Defines : List Macro → Macro → List Macro → Type 0
Defines before definition after =
    MatchOption (macro_named definition.name before) (after ≡ before ++ definition ∷ [])
    (λ there. SameDefinition there definition × (after ≡ before))

-- another definition of the name stands
abbrev pub IsRedefined : List Macro → Macro → Type 0
IsRedefined macros definition = MatchOption (macro_named definition.name macros) ⊥ (λ there. SameDefinition there definition → ⊥)

abbrev pub without : List ℕ → List Macro → List Macro
without name macros = filter (λ definition. not (is_named name definition)) macros
