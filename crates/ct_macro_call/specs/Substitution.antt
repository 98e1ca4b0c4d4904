-- What a call puts in its place (C11 6.10.3.1 to 6.10.3.3): the body, with arguments for parameters.
use Rattle.std.specs.Prelude.{◌≡◌, ℕ, not, ◌&&◌, ◌||◌, Bool, true, false, List, [], ◌∷◌, ◌++◌, Option, Some, None, map, filter, MatchBool, if◌then◌else◌}
use Rattle.std.specs.List.{list_any}
use Rattle.std.specs.Str.{bytes_eq}
use Rattle.ct_base.specs.declared.lexical.Token.{Token}
use Rattle.ct_macro_call.specs.declared.definition.Macro.{Macro}
use Rattle.ct_macro_call.specs.declared.marked.Marked.{Marked}
use Rattle.ct_macro_call.specs.declared.call.Operand.{Operand}
use Rattle.ct_macro_call.specs.declared.call.Call.{Call}
use Rattle.ct_macro_call.specs.Words.{is_hash, is_paste, parameters_of}
use Rattle.ct_macro_call.specs.Sets.{joined}
use Rattle.ct_macro_call.specs.Spelled.{string_of, placemarker, respaced, Joins}

-- ---- the body as operands

abbrev pub begins_with_paste : List Token → Bool
begins_with_paste [] = false
begins_with_paste (token ∷ tokens) = is_paste token

-- The operands of a body, behind `##` or not, and behind `#` or not. Only a function-like macro has the operator `#`.
abbrev pub operands : Bool → Bool → Option Token → List Token → List Operand
operands function behind hash [] = []
operands function behind (Some hash) (token ∷ tokens) =
    record { token = token; hash = Some hash; behind_paste = behind; before_paste = begins_with_paste tokens }
    ∷ operands function false None tokens
operands function behind None (token ∷ tokens) =
    if is_paste token then operands function true None tokens
    else if function && is_hash token then operands function behind (Some token) tokens
    else record { token = token; hash = None; behind_paste = behind; before_paste = begins_with_paste tokens }
    ∷ operands function false None tokens

abbrev pub is_function : Macro → Bool
is_function definition = has_list definition.parameters
  where
    has_list : Option (List (List ℕ)) → Bool
    has_list None = false
    has_list (Some names) = true

abbrev pub operands_of : Macro → List Operand
operands_of definition = operands (is_function definition) false None definition.body

-- ---- the arguments

abbrev pub is_at : Option Token → Bool
is_at None = false
is_at (Some hash) = true

-- whether `#` or `##` stands beside it
abbrev pub is_beside : Operand → Bool
is_beside operand = is_at operand.hash || operand.behind_paste || operand.before_paste

-- whether a parameter stands at least once beside `#` or `##`
abbrev pub is_raw : List Operand → List ℕ → Bool
is_raw body name = list_any (λ operand. bytes_eq operand.token.text name && is_beside operand) body

-- whether a parameter stands at least once away from `#` and `##`
abbrev pub is_full : List Operand → List ℕ → Bool
is_full body name = list_any (λ operand. bytes_eq operand.token.text name && not (is_beside operand)) body

abbrev pub names_in : Macro → List (List ℕ)
names_in definition = listed (parameters_of definition)
  where
    listed : Option (List (List ℕ)) → List (List ℕ)
    listed None = []
    listed (Some names) = names

-- the arguments of the parameters that pass the test, and no tokens for the others
abbrev pub selected : (List ℕ → Bool) → List (List ℕ) → List (List Marked) → List (List Marked)
selected test [] arguments = []
selected test (name ∷ names) [] = []
selected test (name ∷ names) (argument ∷ arguments) =
    (if test name then argument else []) ∷ selected test names arguments

abbrev pub argument_of : List ℕ → List (List ℕ) → List (List Marked) → Option (List Marked)
argument_of text [] arguments = None
argument_of text (name ∷ names) [] = None
argument_of text (name ∷ names) (argument ∷ arguments) =
    if bytes_eq text name then Some argument else argument_of text names arguments

-- ---- what an operand puts

-- white space stands before the first token as before its parameter
abbrev pub placed : Token → List Marked → List Marked
placed place [] = []
placed place (first ∷ rest) = respaced place.spaced first ∷ rest

abbrev pub unmarked : Token → Marked
unmarked token = record { token = token; hidden = [] }

abbrev pub string_at : Token → Option (List Marked) → List Marked
string_at hash None = string_of hash [] ∷ []
string_at hash (Some argument) = string_of hash argument ∷ []

abbrev pub full_at : Token → Option (List Marked) → List Marked
full_at token None = unmarked token ∷ []
full_at token (Some argument) = placed token argument

-- beside `##` an argument without tokens is a placemarker
abbrev pub raw_at : Token → Option (List Marked) → List Marked
raw_at token None = unmarked token ∷ []
raw_at token (Some []) = placemarker token ∷ []
raw_at token (Some (first ∷ rest)) = placed token (first ∷ rest)

-- the tokens of an operand, for arguments as they stand and as they are expanded
abbrev pub tokens_at : List (List ℕ) → List (List Marked) → List (List Marked) → Operand → List Marked
tokens_at names raws fulls operand = by_hash operand.hash
  where
    by_hash : Option Token → List Marked
    by_hash (Some hash) = string_at hash (argument_of operand.token.text names raws)
    by_hash None =
        if operand.behind_paste || operand.before_paste then raw_at operand.token (argument_of operand.token.text names raws)
        else full_at operand.token (argument_of operand.token.text names fulls)

-- ---- what the whole body puts

-- The tokens that operands put one after another, from the left, each pasted to those before where `##` stands between
-- them. `left` are the tokens of the operand before. There are none where two tokens make no token.
abbrev pub Puts : (Operand → List Marked) → List Marked → List Operand → List Marked → Type 0
Puts tokens left [] put = put ≡ left
Puts tokens left (operand ∷ more) put =
    MatchBool operand.behind_paste
    ((joint : List Marked) × Joins left (tokens operand) joint × Puts tokens joint more put)
    ((rest : List Marked) × Puts tokens (tokens operand) more rest × (put ≡ left ++ rest))

abbrev pub has_bytes : Marked → Bool
has_bytes marked = with_first marked.token.text
  where
    with_first : List ℕ → Bool
    with_first [] = false
    with_first (byte ∷ bytes) = true

-- a token of the replacement has the place of the replaced name
abbrev pub dressed : Call → Marked → Marked
dressed call marked =
    record { token = record marked.token { span = call.name.token.span }; hidden = joined marked.hidden call.added }

-- what the call puts, once the arguments that are to be expanded are so
pub record IsReplacement (call : Call) (fulls : List (List Marked)) (put : List Marked) : Type 0 where
  pub tokens : List Marked
  pub puts : Puts (tokens_at call.names call.raws fulls) [] call.body tokens
  pub put_is : put ≡ placed call.name.token (map (dressed call) (filter has_bytes tokens))

-- A call of a macro with an argument for each parameter: the arguments that are taken as they stand are among its
-- parts. The places are those that join the set of each token that it puts.
abbrev pub call_of : Marked → Macro → List ℕ → List (List Marked) → Call
call_of name definition added arguments =
    record { name = name; added = added; names = names_in definition; body = operands_of definition; raws = selected (is_raw (operands_of definition)) (names_in definition) arguments }

-- the arguments that are to be expanded, and no tokens for the others
abbrev pub full_arguments : Macro → List (List Marked) → List (List Marked)
full_arguments definition arguments = selected (is_full (operands_of definition)) (names_in definition) arguments
