-- What a name means at a place: a variable in scope, or a function declared so far (C11 6.2.1, 6.2.3).
use Rattle.std.specs.Prelude.{ℕ, Bool, false, List, [], ◌∷◌, bytes_eq, find, reverse, option_map, Option, Some, None, if◌then◌else◌, replicate}
use Rattle.std.specs.List.{list_any}
use Rattle.ct_ctype.specs.declared.kinds.IntKind.TheVariants.{UnsignedInt, Int, LongLong}
use Rattle.ct_ctype.specs.declared.types.CType.{CType}
use Rattle.ct_ctype.specs.declared.types.CType.TheVariants as type
use Rattle.ct_ctype.specs.declared.types.FunctionType.{FunctionType}
use Rattle.ct_form.specs.declared.names.Binding.{Binding}
use Rattle.ct_form.specs.declared.names.Signature.{Signature}

abbrev pub is_bound : List ℕ → Binding → Bool
is_bound name binding = bytes_eq binding.name name

-- the number of the variable of a name in a scope, which has the innermost and newest declaration last
abbrev pub variable_number : List Binding → List ℕ → Option ℕ
variable_number scope name = option_map (λ (binding : Binding). binding.number) (find (is_bound name) (reverse scope))

-- whether these declarations, those of one block, have the name
abbrev pub is_declared : List Binding → List ℕ → Bool
is_declared own name = list_any (is_bound name) own

abbrev pub is_signed : List ℕ → Signature → Bool
is_signed name signature = bytes_eq signature.name name

-- the function of a name
abbrev pub signature_named : List Signature → List ℕ → Option Signature
signature_named signatures name = find (is_signed name) signatures

-- a variable hides a function of its name
abbrev pub callee : List Signature → List Binding → List ℕ → Option Signature
callee signatures scope name = unless (variable_number scope name)
  where
    unless : Option ℕ → Option Signature
    unless (Some number) = None
    unless None = signature_named signatures name

-- `int`
abbrev pub int_type : CType
int_type = type.Int Int

-- `int (int, .., int)` or `void (int, .., int)`
abbrev pub type_of : Signature → FunctionType
type_of signature =
    record {
      result = if signature.gives_value then int_type else type.Void;
      parameters = replicate signature.parameters int_type;
      variadic = false;
    }

-- void (unsigned int, long long, long long)
abbrev pub assertion_type : FunctionType
assertion_type = record { result = type.Void; parameters = type.Int UnsignedInt ∷ type.Int LongLong ∷ type.Int LongLong ∷ []; variadic = false }
