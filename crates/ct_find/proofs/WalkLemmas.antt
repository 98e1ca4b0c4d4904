-- The listing of folders.
use Rattle.std.proofs.Common.{◌≡◌, ℕ, zero, suc, ◌+◌, ◌<◌, ◌↔◌, List, [], ◌∷◌, ◌++◌, true, false, Option, Some, Ok, Err, IfSome, length, get_or, take, refl, sym, ap, subst, ◌∙◌, arith}
use Rattle.std.specs.Prelude.{String, string_bytes, slice_get}
use Rattle.std.specs.declared.alloc.Global.{Global}
use Rattle.std.specs.List.{Contains}
use Rattle.std.proofs.lemmas.Bool.{false≢true}
use Rattle.ct_base.specs.declared.memory.Fail.{Fail}
use Rattle.ct_base.specs.declared.memory.Fail.TheVariants.{Fault, OutOfMemory}
use Rattle.ct_outside.specs.Files.{Files, IsListing, Leaves, ListsFolder}
use Rattle.ct_outside.specs.declared.tree.Entry.{Entry}
use Rattle.ct_outside.specs.declared.tree.Found.{Found}
use Rattle.ct_outside.specs.declared.tree.Found.TheVariants.{There, Absent, TooLarge}
use Rattle.ct_find.specs.declared.files.FindFault.{FindFault}
use Rattle.ct_find.specs.declared.files.FindFault.TheVariants.{Read, Limit}
use Rattle.ct_find.specs.declared.walking.Listing.{Listing}
use Rattle.ct_find.specs.declared.rows.Row.{Row}
use Rattle.ct_find.specs.Order.{inside}
use Rattle.ct_find.specs.Rows.{IsChildOf, IsRowChild, ListsNext, VisitTells, is_child, texts_of}
use Rattle.ct_find.specs.Sets.{AreSorted}
use Rattle.ct_find.proofs.Members.{all_taken, contains_none}
use Rattle.ct_find.proofs.SetLemmas.{sorted_as}
use Rattle.ct_find.proofs.StartLemmas.{collected, collected_none, some_taken, taken_some}
use Rattle.ct_find.specs.Places.{IsFresh}

pub told_at : {A : Type 0} (o : Option A) (P : A → Type 0) (x : A) → IfSome o P → o ≡ Some x → P x
told_at {A = A} o P x h e = let Q : Option A → Type 0 = λ p. IfSome p P in subst Q e h

-- what a list of a folder gives
pub listing_of : (files : Files) (folder : List ℕ) (found : Found) (old new : List Entry) → old ≡ [] → ListsFolder files folder found old new
    → Leaves {A = Entry} (Ok found) old new → IsListing files folder new
listing_of files folder There old new none (added, more, there, listing) left =
    subst (λ es. IsListing files folder es) (sym (more ∙ ap (λ front. front ++ added) none)) listing
listing_of files folder Absent old new none absent left =
    subst (λ es. IsListing files folder es) (sym (left ∙ none))
    (record { each = λ e. ((λ m. absurd (contains_none e m)), (λ h. absurd (absent (e, h)))); once = tt })
listing_of files folder TooLarge old new none h left = absurd h

last_row : (rows : List Row) (a b : Row) → rows ++ a ∷ [] ≡ rows ++ b ∷ [] → a ≡ b
last_row [] a b e = cc
last_row (x ∷ rows) a b e = let others : rows ++ a ∷ [] ≡ rows ++ b ∷ [] = cc in last_row rows a b others

-- the row that was added is the one that was pushed
pub same_row : (files : Files) (folder : List ℕ) (rows new : List Row) (a b : Row) → new ≡ rows ++ a ∷ [] → new ≡ rows ++ b ∷ [] → IsListing files folder a.entries → IsListing files folder b.entries
same_row files folder rows new a b p q listing = subst (λ (r : Row). IsListing files folder r.entries) (last_row rows a b (sym p ∙ q)) listing

pub got_in : {A : Type 0} (xs : List A) (i : ℕ) (x : A) → slice_get xs i ≡ Some x → (i < length xs) × ((d : A) → get_or xs i d ≡ x)
got_in [] i x e = absurd (cc)
got_in (y ∷ xs) zero x e = (omega arith, λ d. cc)
got_in (y ∷ xs) (suc i) x e = let r = got_in xs i x e in (omega (arith, r.0), r.1)

pub got_member : {A : Type 0} (xs : List A) (i : ℕ) (x : A) → slice_get xs i ≡ Some x → Contains xs x
got_member xs i x e = let r = got_in xs i x e in (i, r.0, r.1 x)

pub got_last : {A : Type 0} (xs new : List A) (x : A) (i : ℕ) → new ≡ xs ++ x ∷ [] → i ≡ length xs → slice_get new i ≡ Some x
got_last xs new x i e l = subst (λ zs. slice_get zs i ≡ Some x) (sym e) (subst (λ k. slice_get (xs ++ x ∷ []) k ≡ Some x) (sym l) (at_end xs x))
  where
    at_end : {A : Type 0} (xs : List A) (x : A) → slice_get (xs ++ x ∷ []) (length xs) ≡ Some x
    at_end [] x = refl
    at_end (y ∷ xs) x = at_end xs x

-- a limit that is passed at a folder which was not listed before
pub passes_fresh : (B : Type 0) (files : Files) (folder : List ℕ) (old new : Listing) (fail : Fail FindFault) → IsFresh old.rows folder
    → ListsNext files folder old new (Err fail) → VisitTells {A = B} files folder old new (Err fail)
passes_fresh B files folder old new OutOfMemory fresh h = tt
passes_fresh B files folder old new (Fault Read) fresh h = tt
passes_fresh B files folder old new (Fault (Limit kind path)) fresh h = (h.0, fresh, h.1)

pub told_on : (A B : Type 0) (files : Files) (folder : List ℕ) (old new : Listing) (fail : Fail FindFault)
    → VisitTells {A = A} files folder old new (Err fail) → VisitTells {A = B} files folder old new (Err fail)
told_on A B files folder old new OutOfMemory h = tt
told_on A B files folder old new (Fault Read) h = tt
told_on A B files folder old new (Fault (Limit kind path)) h = h

-- the children of a listed folder, as its entries are looked at
ChildrenSoFar : List ℕ → List Entry → List ℕ → Type 0
ChildrenSoFar folder entries path = (e : Entry) × Contains entries e × IsChildOf folder e path

pub child_pushed : (folder : List ℕ) (entries : List Entry) (i : ℕ) (entry : Entry) (old new : List (String Global)) (s : String Global) → i < length entries → entry ≡ get_or entries i entry
    → ((path : List ℕ) → Contains (texts_of old) path ↔ ((e : Entry) × Contains (take i entries) e × IsChildOf folder e path))
    → is_child entry ≡ true → string_bytes s ≡ inside folder entry.name → new ≡ old ++ s ∷ []
    → (path : List ℕ) → Contains (texts_of new) path ↔ ((e : Entry) × Contains (take (i + 1) entries) e × IsChildOf folder e path)
unfolding ChildrenSoFar
child_pushed folder entries i entry old new s within read was child is pushed =
    collected (ChildrenSoFar folder (take i entries)) (ChildrenSoFar folder (take (i + 1) entries)) (IsChildOf folder entry) old new was
    (λ p. some_taken (λ e. IsChildOf folder e p) entries i entry within read) (λ p. taken_some (λ e. IsChildOf folder e p) entries i entry within read)
    s pushed (λ p. ((λ h. is ∙ sym h.1), (λ e. (child, sym e ∙ is))))

pub child_passed : (folder : List ℕ) (entries : List Entry) (i : ℕ) (entry : Entry) (old new : List (String Global)) → i < length entries → entry ≡ get_or entries i entry
    → ((path : List ℕ) → Contains (texts_of old) path ↔ ((e : Entry) × Contains (take i entries) e × IsChildOf folder e path))
    → is_child entry ≡ false → new ≡ old
    → (path : List ℕ) → Contains (texts_of new) path ↔ ((e : Entry) × Contains (take (i + 1) entries) e × IsChildOf folder e path)
unfolding ChildrenSoFar
child_passed folder entries i entry old new within read was none same =
    collected_none (ChildrenSoFar folder (take i entries)) (ChildrenSoFar folder (take (i + 1) entries)) (IsChildOf folder entry) old new was
    (λ p. some_taken (λ e. IsChildOf folder e p) entries i entry within read) (λ p. taken_some (λ e. IsChildOf folder e p) entries i entry within read)
    same (λ p h. false≢true (sym none ∙ h.0))

pub all_children : (row : Row) (i : ℕ) (entries : List Entry) (texts : List (String Global)) (paths : List (List ℕ)) → entries ≡ row.entries → i ≡ length entries
    → ((path : List ℕ) → Contains (texts_of texts) path ↔ ((e : Entry) × Contains (take i entries) e × IsChildOf row.folder e path))
    → AreSorted (Contains (texts_of texts)) paths → AreSorted (IsRowChild row) paths
all_children row i entries texts paths own all was set =
    sorted_as (Contains (texts_of texts)) (IsRowChild row) paths
    (λ p. subst (λ es. Contains (texts_of texts) p ↔ ((e : Entry) × Contains es e × IsChildOf row.folder e p)) (all_taken entries i all ∙ own) (was p)) set
