-- The forms of directives (C11 6.10). A directive is its tokens behind `#`, without the new-line.
use Rattle.std.specs.Prelude.{ℕ, ◌==◌, ◌&&◌, ◌||◌, not, Bool, true, false, List, [], ◌∷◌, ◌++◌, Option, Some, None, codes, if◌then◌else◌}
use Rattle.std.specs.List.{list_any}
use Rattle.std.specs.Option.{option_map, option_or}
use Rattle.std.specs.Str.{bytes_eq}
use Rattle.ct_base.specs.declared.lexical.Token.{Token}
use Rattle.ct_base.specs.declared.lexical.TokenKind.{TokenKind}
use Rattle.ct_base.specs.declared.lexical.TokenKind.TheVariants.{Name, Number, Text, Other}
use Rattle.ct_macro_call.specs.declared.definition.Macro.{Macro}
use Rattle.ct_directive.specs.declared.definitions.Parameters.{Parameters}
use Rattle.ct_directive.specs.declared.forms.Header.{Header}
use Rattle.ct_macro_call.specs.Definition.{macro_named}

abbrev pub is_name_kind : TokenKind → Bool
is_name_kind Name = true
is_name_kind kind = false

abbrev pub is_text_kind : TokenKind → Bool
is_text_kind Text = true
is_text_kind kind = false

abbrev pub is_other_kind : TokenKind → Bool
is_other_kind Other = true
is_other_kind kind = false

abbrev pub is_name : Token → Bool
is_name token = is_name_kind token.kind

-- spelled so
abbrev pub is : List ℕ → Token → Bool
is text token = bytes_eq token.text text

-- the names that no directive may define or take away (6.10.8p2)
abbrev pub is_protected : List ℕ → Bool
is_protected name =
    list_any (bytes_eq name) (codes "defined" ∷ codes "__LINE__" ∷ codes "__FILE__" ∷ codes "__STDC__" ∷ codes "__STDC_VERSION__" ∷ [])

-- one name alone, as `#ifdef` and `#ifndef` ask (6.10.1)
abbrev pub one_name : List Token → Option (List ℕ)
one_name (token ∷ []) = if is_name token then Some token.text else None
one_name _ = None

-- the name that `#undef` takes away (6.10.3.5)
abbrev pub undefined_name : List Token → Option (List ℕ)
undefined_name (token ∷ []) = if is_name token && not (is_protected token.text) then Some token.text else None
undefined_name _ = None

-- ---- definitions (6.10.3)

-- these names, and then those of the list
abbrev pub with_names : List (List ℕ) → Option Parameters → Option Parameters
with_names names found = option_map (λ list. record { names = names ++ list.names; variadic = list.variadic; body = list.body }) found

-- `)`
abbrev pub closed : Bool → List Token → Option Parameters
closed variadic [] = None
closed variadic (mark ∷ body) = if is (codes ")") mark then Some (record { names = []; variadic = variadic; body = body }) else None

-- the end of a parameter list: `)`, or `, ... )`
abbrev pub list_end : List Token → Option Parameters
list_end [] = None
list_end (mark ∷ []) = closed false (mark ∷ [])
list_end (mark ∷ next ∷ rest) =
    if is (codes ")") mark then closed false (mark ∷ next ∷ rest)
    else if is (codes ",") mark && is (codes "...") next then closed true rest else None

-- `, NAME` and the rest of the list, or its end
abbrev pub more_parameters : List Token → Option Parameters
more_parameters [] = None
more_parameters (mark ∷ []) = list_end (mark ∷ [])
more_parameters (mark ∷ next ∷ rest) =
    if is (codes ",") mark && is_name next then with_names (next.text ∷ []) (more_parameters rest) else list_end (mark ∷ next ∷ rest)

-- what stands behind the `(` of a parameter list
abbrev pub parameters_in : List Token → Option Parameters
parameters_in [] = None
parameters_in (first ∷ rest) =
    if is_name first then with_names (first.text ∷ []) (more_parameters rest)
    else if is (codes "...") first then closed true rest else closed false (first ∷ rest)

abbrev pub function_like : List ℕ → Option Parameters → Option Macro
function_like name found =
    option_map (λ list. record { name = name; parameters = Some list.names; variadic = list.variadic; body = list.body }) found

abbrev pub object_like : List ℕ → List Token → Macro
object_like name body = record { name = name; parameters = None; variadic = false; body = body }

-- What stands behind the name: nothing; `(` right behind it, and a parameter list; or white space, and the body.
abbrev pub defined_as : List ℕ → List Token → Option Macro
defined_as name [] = Some (object_like name [])
defined_as name (first ∷ rest) =
    if first.spaced then Some (object_like name (first ∷ rest))
    else if is (codes "(") first then function_like name (parameters_in rest) else None

-- the macro that `#define` defines
abbrev pub definition_in : List Token → Option Macro
definition_in [] = None
definition_in (name ∷ rest) = if is_name name && not (is_protected name.text) then defined_as name.text rest else None

-- ---- includes (6.10.2)

-- the bytes of tokens behind another one, with a space where white space stands before a token
abbrev pub spelled_behind : List Token → List ℕ
spelled_behind [] = []
spelled_behind (token ∷ tokens) = (if token.spaced then 32 ∷ [] else []) ++ token.text ++ spelled_behind tokens

-- the bytes of tokens, with a space where white space stands between two
abbrev pub spelling : List Token → List ℕ
spelling [] = []
spelling (first ∷ rest) = first.text ++ spelled_behind rest

-- a name before this byte, which does not stand in it
abbrev pub name_before : ℕ → List ℕ → Option (List ℕ)
name_before last [] = None
name_before last (byte ∷ []) = None
name_before last (byte ∷ next ∷ bytes) =
    if byte == last then None
    else if bytes_eq (next ∷ bytes) (last ∷ []) then Some (byte ∷ []) else option_map (λ name. byte ∷ name) (name_before last (next ∷ bytes))

-- a name between two bytes, of which the second does not stand in it
abbrev pub name_between : ℕ → ℕ → List ℕ → Option (List ℕ)
name_between first last [] = None
name_between first last (byte ∷ bytes) = if byte == first then name_before last bytes else None

-- `"name"`, which is one token
abbrev pub quoted_header : List Token → Option Header
quoted_header (token ∷ []) =
    if is_text_kind token.kind then option_map (λ name. record { name = name; quoted = true }) (name_between 34 34 token.text) else None
quoted_header tokens = None

-- `<name>`, which is the bytes of tokens
abbrev pub bracketed_header : List Token → Option Header
bracketed_header tokens = option_map (λ name. record { name = name; quoted = false }) (name_between 60 62 (spelling tokens))

abbrev pub header_in : List Token → Option Header
header_in tokens = option_or (quoted_header tokens) (bracketed_header tokens)

-- ---- conditions (6.10.1)

-- `__LINE__` is always defined
abbrev pub is_defined : List Macro → List ℕ → Bool
is_defined macros name = bytes_eq name (codes "__LINE__") || stands (macro_named name macros)
  where
    stands : Option Macro → Bool
    stands None = false
    stands (Some found) = true

-- the number that `defined` and its name stand for
abbrev pub defined_number : List Macro → Token → List ℕ → Token
defined_number macros word name =
    record word { kind = Number; text = if is_defined macros name then codes "1" else codes "0" }

abbrev pub is_operator : Token → Bool
is_operator token = is_name token && is (codes "defined") token

-- each `defined NAME` and `defined ( NAME )` as a number
abbrev pub without_defined : List Macro → List Token → List Token
without_defined macros [] = []
without_defined macros (first ∷ []) = first ∷ []
without_defined macros (first ∷ second ∷ []) =
    if is_operator first && is_name second then defined_number macros first second.text ∷ [] else first ∷ second ∷ []
without_defined macros (first ∷ second ∷ third ∷ []) =
    if is_operator first && is_name second then defined_number macros first second.text ∷ third ∷ []
    else first ∷ without_defined macros (second ∷ third ∷ [])
without_defined macros (first ∷ second ∷ third ∷ fourth ∷ rest) =
    if is_operator first && is_name second then defined_number macros first second.text ∷ without_defined macros (third ∷ fourth ∷ rest)
    else if is_operator first && is (codes "(") second && is_name third && is (codes ")") fourth
    then defined_number macros first third.text ∷ without_defined macros rest
    else first ∷ without_defined macros (second ∷ third ∷ fourth ∷ rest)

-- `defined` stands without a name
abbrev pub has_operator : List Token → Bool
has_operator tokens = list_any is_operator tokens

-- ---- the operator `_Pragma` (6.10.9)

-- `_Pragma ( "text" )`
abbrev pub is_pragma : Token → Token → Token → Token → Bool
is_pragma word before text behind = is (codes "_Pragma") word && is (codes "(") before && is_text_kind text.kind && is (codes ")") behind

-- tokens without each operator and its operand
abbrev pub without_pragmas : List Token → List Token
without_pragmas [] = []
without_pragmas (first ∷ []) = first ∷ []
without_pragmas (first ∷ second ∷ []) = first ∷ second ∷ []
without_pragmas (first ∷ second ∷ third ∷ []) = first ∷ second ∷ third ∷ []
without_pragmas (first ∷ second ∷ third ∷ fourth ∷ rest) =
    if is_pragma first second third fourth then without_pragmas rest else first ∷ without_pragmas (second ∷ third ∷ fourth ∷ rest)

-- the first token that begins no preprocessing token
abbrev pub first_other : List Token → Option Token
first_other [] = None
first_other (token ∷ tokens) = if is_other_kind token.kind then Some token else first_other tokens
