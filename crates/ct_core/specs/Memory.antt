-- What a run's objects are and hold (C11 6.2.4, 6.2.6.1).
use Rattle.std.specs.Prelude.{ℕ, Bool, true, false, List, [], ◌∷◌, ◌++◌, length, replicate, slice_get, slice_set, Option, option_map, option_and_then}
use Rattle.ct_core.specs.declared.values.Space.{Space}
use Rattle.ct_core.specs.declared.values.Space.TheVariants.{Project, Tool}
use Rattle.ct_core.specs.declared.values.Pointer.{Pointer}
use Rattle.ct_core.specs.declared.values.Cell.{Cell}
use Rattle.ct_core.specs.declared.values.Cell.TheVariants.{Nothing}
use Rattle.ct_core.specs.declared.objects.Kind.{Kind}
use Rattle.ct_core.specs.declared.objects.Object.{Object}

-- The objects of each space, by their numbers from 0. The number of the next one is how many there are. An object that has
-- ended stays, so no number is used again.
pub record Memory : Type 0 where
  pub project : List Object
  pub tool : List Object

abbrev pub no_objects : Memory
no_objects = record { project = []; tool = [] }

abbrev pub objects_in : Space → Memory → List Object
objects_in Project m = m.project
objects_in Tool m = m.tool

-- the memory with these objects in a space
abbrev pub with_objects : Space → List Object → Memory → Memory
with_objects Project objects m = record m { project = objects }
with_objects Tool objects m = record m { tool = objects }

-- the object that a pointer points into, ended or not, where there ever was one
abbrev pub object_of : Pointer → Memory → Option Object
object_of at m = slice_get (objects_in at.space m) at.number

-- the memory with another object in the place of that one
abbrev pub with_object : Pointer → Object → Memory → Memory
with_object at object m = with_objects at.space (slice_set (objects_in at.space m) at.number object) m

-- an object of so many bytes, in which nothing was stored yet
abbrev pub new_object : Kind → ℕ → ℕ → Bool → Object
new_object kind name bytes constant =
    record { kind = kind; name = name; cells = replicate bytes Nothing; alive = true; constant = constant }

-- where the next object of a space begins
abbrev pub next_pointer : Space → Memory → Pointer
next_pointer space m = record { space = space; number = length (objects_in space m); offset = 0 }

-- the memory with one more object
abbrev pub with_new : Space → Object → Memory → Memory
with_new space object m = with_objects space (objects_in space m ++ object ∷ []) m

-- what is left of an object that has ended: no cells
abbrev pub ended_object : Object → Object
ended_object object = record object { cells = []; alive = false }

-- the cell at a place of a live object; an object that has ended has none
abbrev pub cell_at : Pointer → Memory → Option Cell
cell_at at m = option_and_then (λ (object : Object). slice_get object.cells at.offset) (object_of at m)

-- the kind and the name with which an object was made
abbrev pub about_object : Pointer → Memory → Option (Kind × ℕ)
about_object at m = option_map (λ (object : Object). (object.kind, object.name)) (object_of at m)
