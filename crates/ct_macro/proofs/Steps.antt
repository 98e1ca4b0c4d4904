-- Each step of an expansion is a rule of its definition.
use Rattle.std.proofs.Common.{◌≡◌, ℕ, Bool, false, take, drop, ◌+◌, ◌<◌, ◌≤◌, List, [], ◌∷◌, ◌++◌, length, refl, sym, ap, ◌∙◌, subst, append_assoc, arith, length-append}
use Rattle.std.proofs.lemmas.List.{append-nil}
use Rattle.std.specs.Prelude.{Result, Ok, Err, OnOk, IsErrAnd, ◌-◌, ◌*◌}
use Rattle.ct_base.specs.Answers.{IfFault}
use Rattle.ct_base.specs.declared.memory.Fail.{Fail}
use Rattle.ct_base.specs.declared.memory.Fail.TheVariants.{Fault, OutOfMemory}
use Rattle.ct_macro.specs.declared.faults.MacroFault.{MacroFault}
use Rattle.ct_macro.specs.declared.faults.MacroKind.{MacroKind}
use Rattle.ct_macro.specs.declared.faults.MacroKind.TheVariants.{BadPaste, TooLong}
use Rattle.ct_macro_call.specs.declared.definition.Macro.{Macro}
use Rattle.ct_macro_call.specs.declared.marked.Marked.{Marked}
use Rattle.ct_macro_call.specs.declared.call.Call.{Call}
use Rattle.ct_macro.specs.declared.reading.Step.{Step}
use Rattle.ct_macro.specs.declared.reading.Step.TheVariants as step
use Rattle.ct_macro.specs.declared.expander.Frame.{Frame}
use Rattle.ct_macro.specs.declared.expander.Expander.{Expander}
use Rattle.ct_macro_call.specs.Substitution.{IsReplacement}
use Rattle.ct_macro.specs.Expansion.{Reading, kept, refused, replaced, ExpansionOutcome, done, stopped, fault_at, led_by, led_all, stay_behind, IsReading, Expands, nothing, keeps, refuses, replaces, ExpandsEach, none, each, ends, Continues, stops, unpasted, passes, again}
use Rattle.ct_macro.specs.Machine.{StepGives, Finishes, ResumesOne, Resumes, GoesOn, Comes}

-- ---- answers

pub on_ok : (T E : Type 0) (r : Result T E) (P Q : Type 0) → OnOk r P → (P → Q) → OnOk r Q
on_ok T E (Ok value) P Q h f = f h
on_ok T E (Err e) P Q h f = h

pub if_fault : (T F : Type 0) (r : Result T (Fail F)) (P Q : F → Type 0) → IfFault {T = T} {F = F} r P → ((fault : F) → P fault → Q fault) → IfFault {T = T} {F = F} r Q
if_fault T F (Ok value) P Q h f = tt
if_fault T F (Err (Fault fault)) P Q h f = f fault h
if_fault T F (Err OutOfMemory) P Q h f = tt

pub fault_is : (T F : Type 0) (P : F → Type 0) (f : Fail F) (fault : F) → f ≡ Fault fault → P fault → IfFault {T = T} {F = F} (Err f) P
fault_is T F P f fault e p = subst (λ (g : Fail F). IfFault {T = T} {F = F} (Err g) P) (sym e) p

-- a fault that is handed on
pub fault_passed : (T F : Type 0) (r : Result T (Fail F)) (e : Fail F) (P Q : F → Type 0) → IsErrAnd r (λ m. m ≡ e) → IfFault {T = Unit {0}} {F = F} (Err e) P
    → ((fault : F) → P fault → Q fault) → IfFault {T = T} {F = F} r Q
fault_passed T F (Ok value) e P Q is h f = tt
fault_passed T F (Err m) e P Q is h f = if_fault (Unit {0}) F (Err m) P Q (subst (λ (g : Fail F). IfFault {T = Unit {0}} {F = F} (Err g) P) (sym is) h) f

-- ---- what a step reads

module _ (macros : List Macro) (first : Marked) (rest : List Marked) where
  abbrev pub Gives : Step → List Marked → Type 0
  Gives answer after = (reading : Reading) × IsReading macros first rest reading × StepGives first rest answer after reading

  pub kept_reading : (answer : Step) (after : List Marked) (token : Marked) → Gives answer after → answer ≡ step.Kept token
      → IsReading macros first rest kept × (token ≡ first) × (after ≡ rest)
  kept_reading answer after token given is =
      let moved : Gives (step.Kept token) after = subst (λ (a : Step). Gives a after) is given in
      (subst (λ (r : Reading). IsReading macros first rest r) moved.2.0 moved.1, moved.2.1, moved.2.2)

  pub refused_reading : (answer : Step) (after : List Marked) (kind : MacroKind) (name : Marked) → Gives answer after → answer ≡ step.Refused kind name
      → IsReading macros first rest (refused kind) × (name ≡ first)
  refused_reading answer after kind name given is =
      let moved : Gives (step.Refused kind name) after = subst (λ (a : Step). Gives a after) is given in
      (subst (λ (r : Reading). IsReading macros first rest r) moved.2.0 moved.1, moved.2.1)

  pub replaced_reading : (answer : Step) (after : List Marked) (call : Call) (arguments : List (List Marked)) → Gives answer after → answer ≡ step.Replaced call arguments
      → IsReading macros first rest (replaced call arguments after)
  replaced_reading answer after call arguments given is =
      let moved : Gives (step.Replaced call arguments) after = subst (λ (a : Step). Gives a after) is given in
      subst (λ (r : Reading). IsReading macros first rest r) moved.2 moved.1

led_all_nil : {A : Type 0} (o : ExpansionOutcome (List A)) → led_all [] o ≡ o
led_all_nil (done rest counted) = refl
led_all_nil (stopped fault) = refl

led_all_more : {A : Type 0} (xs : List A) (x : A) (o : ExpansionOutcome (List A)) → led_all xs (led_by x o) ≡ led_all (xs ++ x ∷ []) o
led_all_more xs x (done rest counted) = ap (λ l. done l counted) (sym (append_assoc xs (x ∷ []) rest))
led_all_more xs x (stopped fault) = refl

led_all_all : {A : Type 0} (xs ys : List A) (o : ExpansionOutcome (List A)) → led_all xs (led_all ys o) ≡ led_all (xs ++ ys) o
led_all_all xs ys (done rest counted) = ap (λ l. done l counted) (sym (append_assoc xs ys rest))
led_all_all xs ys (stopped fault) = refl

module _ (macros : List Macro) (room : ℕ) where
  -- what a state gives, by its parts
  abbrev pub ComesAt : Bool → ℕ → List Frame → List Marked → List Marked → ExpansionOutcome (List Marked) → Type 0
  ComesAt condition counted frames before rest outer =
      (inner : ExpansionOutcome (List Marked)) × Expands macros room condition counted rest inner × Resumes macros room frames (led_all before inner) outer

  pub comes_moved : (condition condition' : Bool) (counted later : ℕ) (frames frames' : List Frame) (before before' rest rest' : List Marked) (outer : ExpansionOutcome (List Marked))
      → condition ≡ condition' → counted ≡ later → frames ≡ frames' → before ≡ before' → rest ≡ rest' → ComesAt condition counted frames before rest outer
      → ComesAt condition' later frames' before' rest' outer
  comes_moved condition condition' counted later frames frames' before before' rest rest' outer q c f b r comes =
      subst (λ (k : Bool). ComesAt k later frames' before' rest' outer) q
      (subst (λ (n : ℕ). ComesAt condition n frames' before' rest' outer) c
      (subst (λ (x : List Frame). ComesAt condition counted x before' rest' outer) f
      (subst (λ (d : List Marked). ComesAt condition counted frames d rest' outer) b
      (subst (λ (l : List Marked). ComesAt condition counted frames before l outer) r comes))))

  -- a call whose arguments that wait are the same
  pub waits_moved : (counted : ℕ) (frames : List Frame) (frame : Frame) (waiting : List (List Marked)) (outer : ExpansionOutcome (List Marked)) → waiting ≡ frame.waiting
      → GoesOn macros room record frame { waiting = waiting } counted frames outer → GoesOn macros room frame counted frames outer
  waits_moved counted frames frame waiting outer e goes =
      subst (λ (w : List (List Marked)). GoesOn macros room record frame { waiting = w } counted frames outer) e goes

  pub stopped_resumes : (frames : List Frame) (fault : MacroFault) → Resumes macros room frames (stopped fault) (stopped fault)
  stopped_resumes [] fault = refl
  stopped_resumes (frame ∷ frames) fault = (stopped fault, refl, stopped_resumes frames fault)

  pub kept_comes : (condition : Bool) (counted : ℕ) (frames : List Frame) (before : List Marked) (t : Marked) (rest : List Marked) (outer : ExpansionOutcome (List Marked))
      → IsReading macros t rest kept → ComesAt condition counted frames (before ++ t ∷ take (stay_behind condition t rest) rest) (drop (stay_behind condition t rest) rest) outer
      → ComesAt condition counted frames before (t ∷ rest) outer
  kept_comes condition counted frames before t rest outer reads comes =
      let stays = t ∷ take (stay_behind condition t rest) rest in
      (led_all stays comes.0, keeps reads comes.1, subst (λ (o : ExpansionOutcome (List Marked)). Resumes macros room frames o outer) (sym (led_all_all before stays comes.0)) comes.2)

  pub refused_comes : (condition : Bool) (counted : ℕ) (frames : List Frame) (before : List Marked) (t : Marked) (rest : List Marked) (kind : MacroKind)
      → IsReading macros t rest (refused kind) → ComesAt condition counted frames before (t ∷ rest) (stopped (fault_at kind t))
  refused_comes condition counted frames before t rest kind reads =
      (stopped (fault_at kind t), refuses reads, stopped_resumes frames (fault_at kind t))

  pub replaced_comes : (counted : ℕ) (frames : List Frame) (t : Marked) (rest : List Marked) (frame : Frame) (outer : ExpansionOutcome (List Marked))
      → IsReading macros t rest (replaced frame.call frame.waiting frame.rest) → frame.fulls ≡ [] → GoesOn macros room frame counted frames outer
      → ComesAt frame.condition counted frames frame.done (t ∷ rest) outer
  replaced_comes counted frames t rest frame outer reads empty goes =
      let fin = goes.1 in (
        fin.rest,
        replaces reads fin.each (subst (λ (m : ExpansionOutcome (List (List Marked))). Continues macros room frame.condition frame.call frame.rest m fin.rest) (ap (λ (f : List (List Marked)). led_all f fin.more) empty ∙ led_all_nil fin.more) fin.continues),
        subst (λ (o : ExpansionOutcome (List Marked)). Resumes macros room frames o outer) fin.whole_is goes.2,
      )

  pub ended_comes : (condition : Bool) (counted : ℕ) (frames : List Frame) (frame next : Frame) (before : List Marked) (outer : ExpansionOutcome (List Marked))
      → next.condition ≡ frame.condition → next.call ≡ frame.call → next.waiting ≡ frame.waiting → next.done ≡ frame.done → next.rest ≡ frame.rest → next.fulls ≡ frame.fulls ++ before ∷ []
      → GoesOn macros room next counted frames outer → ComesAt condition counted (frame ∷ frames) before [] outer
  ended_comes condition counted frames frame next before outer asks call waiting front rest fulls goes =
      let fin = goes.1 in (
        done [] counted,
        nothing,
        (
          goes.0,
          record {
            more = fin.more;
            rest = fin.rest;
            each = subst (λ (w : List (List Marked)). ExpandsEach macros room counted w fin.more) waiting fin.each;
            continues = subst (λ (f : List (List Marked)). Continues macros room frame.condition frame.call frame.rest (led_all f fin.more) fin.rest) (fulls ∙ ap (λ (l : List Marked). frame.fulls ++ l ∷ []) (sym (append-nil before)))
                (subst (λ (r : List Marked). Continues macros room frame.condition frame.call r (led_all next.fulls fin.more) fin.rest) rest
                (subst (λ (k : Call). Continues macros room frame.condition k next.rest (led_all next.fulls fin.more) fin.rest) call
                (subst (λ (q : Bool). Continues macros room q next.call next.rest (led_all next.fulls fin.more) fin.rest) asks fin.continues)));
            whole_is = fin.whole_is ∙ ap (λ (d : List Marked). led_all d fin.rest) front;
          },
          goes.2,
        ),
      )

  pub finished_comes : (condition : Bool) (counted : ℕ) (before : List Marked) → ComesAt condition counted [] before [] (done before counted)
  finished_comes condition counted before = (done [] counted, nothing, ap (λ l. done l counted) (sym (append-nil before)))

  argument_finishes : (counted : ℕ) (frame next : Frame) (argument : List Marked) (inner whole : ExpansionOutcome (List Marked))
      → next.condition ≡ frame.condition → next.call ≡ frame.call → frame.waiting ≡ argument ∷ next.waiting → next.done ≡ frame.done → next.rest ≡ frame.rest → next.fulls ≡ frame.fulls
      → Expands macros room false counted argument inner → ResumesOne macros room next (led_all [] inner) whole → Finishes macros room frame frame.fulls counted whole
  argument_finishes counted frame next argument (stopped fault) whole asks call waiting front rest fulls expands one =
      record {
        more = stopped fault;
        rest = stopped fault;
        each = subst (λ (w : List (List Marked)). ExpandsEach macros room counted w (stopped fault)) (sym waiting) (ends expands);
        continues = stops;
        whole_is = one;
      }
  argument_finishes counted frame next argument (done tokens later) whole asks call waiting front rest fulls expands one =
      record {
        more = led_by tokens one.more;
        rest = one.rest;
        each = subst (λ (w : List (List Marked)). ExpandsEach macros room counted w (led_by tokens one.more)) (sym waiting) (each expands one.each);
        continues = subst (λ (m : ExpansionOutcome (List (List Marked))). Continues macros room frame.condition frame.call frame.rest m one.rest) (sym (led_all_more frame.fulls tokens one.more))
            (subst (λ (f : List (List Marked)). Continues macros room frame.condition frame.call frame.rest (led_all (f ++ tokens ∷ []) one.more) one.rest) fulls
            (subst (λ (r : List Marked). Continues macros room frame.condition frame.call r (led_all (next.fulls ++ tokens ∷ []) one.more) one.rest) rest
            (subst (λ (k : Call). Continues macros room frame.condition k next.rest (led_all (next.fulls ++ tokens ∷ []) one.more) one.rest) call
            (subst (λ (q : Bool). Continues macros room q next.call next.rest (led_all (next.fulls ++ tokens ∷ []) one.more) one.rest) asks one.continues))));
        whole_is = one.whole_is ∙ ap (λ (d : List Marked). led_all d one.rest) front;
      }

  pub argument_goes : (counted : ℕ) (frames : List Frame) (frame next : Frame) (argument : List Marked) (outer : ExpansionOutcome (List Marked))
      → next.condition ≡ frame.condition → next.call ≡ frame.call → frame.waiting ≡ argument ∷ next.waiting → next.done ≡ frame.done → next.rest ≡ frame.rest → next.fulls ≡ frame.fulls
      → ComesAt false counted (next ∷ frames) [] argument outer → GoesOn macros room frame counted frames outer
  argument_goes counted frames frame next argument outer asks call waiting front rest fulls comes =
      (comes.2.0, argument_finishes counted frame next argument comes.0 comes.2.0 asks call waiting front rest fulls comes.1 comes.2.1, comes.2.2)

  continued : (counted : ℕ) (frame : Frame) (rest : ExpansionOutcome (List Marked)) → frame.waiting ≡ [] → Continues macros room frame.condition frame.call frame.rest (done frame.fulls counted) rest
      → Finishes macros room frame frame.fulls counted (led_all frame.done rest)
  continued counted frame rest waiting goes =
      record {
        more = done [] counted;
        rest = rest;
        each = subst (λ (w : List (List Marked)). ExpandsEach macros room counted w (done [] counted)) (sym waiting) none;
        continues = subst (λ (f : List (List Marked)). Continues macros room frame.condition frame.call frame.rest (done f counted) rest) (sym (append-nil frame.fulls)) goes;
        whole_is = refl;
      }

  pub put_goes : (counted : ℕ) (frames : List Frame) (frame : Frame) (put : List Marked) (outer : ExpansionOutcome (List Marked)) → frame.waiting ≡ []
      → IsReplacement frame.call frame.fulls put → counted + length put ≤ room → ComesAt frame.condition (counted + length put) frames frame.done (put ++ frame.rest) outer
      → GoesOn macros room frame counted frames outer
  put_goes counted frames frame put outer waiting is fits comes =
      (led_all frame.done comes.0, continued counted frame comes.0 waiting (again is fits comes.1), comes.2)

  pub unpasted_goes : (counted : ℕ) (frames : List Frame) (frame : Frame) → frame.waiting ≡ [] → ((put : List Marked) → IsReplacement frame.call frame.fulls put → ⊥)
      → GoesOn macros room frame counted frames (stopped (fault_at BadPaste frame.call.name))
  unpasted_goes counted frames frame waiting no_put =
      (stopped (fault_at BadPaste frame.call.name), continued counted frame (stopped (fault_at BadPaste frame.call.name)) waiting (unpasted no_put), stopped_resumes frames (fault_at BadPaste frame.call.name))

  pub too_long_goes : (counted : ℕ) (frames : List Frame) (frame : Frame) (put : List Marked) → frame.waiting ≡ [] → IsReplacement frame.call frame.fulls put
      → room < counted + length put → GoesOn macros room frame counted frames (stopped (fault_at TooLong frame.call.name))
  too_long_goes counted frames frame put waiting is over =
      (stopped (fault_at TooLong frame.call.name), continued counted frame (stopped (fault_at TooLong frame.call.name)) waiting (passes is over), stopped_resumes frames (fault_at TooLong frame.call.name))

  -- at the beginning no call is open and nothing is done
  pub whole : (state : Expander) (condition : Bool) (tokens : List Marked) (outer : ExpansionOutcome (List Marked)) → state.condition ≡ condition → state.counted ≡ 0 → state.calls ≡ [] → state.done ≡ [] → state.rest ≡ tokens
      → Comes macros room state outer → Expands macros room condition 0 tokens outer
  whole state condition tokens outer asks counted calls before rest comes =
      let start : ComesAt condition 0 [] [] tokens outer =
      comes_moved state.condition condition state.counted 0 state.calls [] state.done [] state.rest tokens outer asks counted calls before rest comes in
      subst (λ (o : ExpansionOutcome (List Marked)). Expands macros room condition 0 tokens o) (sym (start.2 ∙ led_all_nil start.0)) start.1

-- ---- the weights

pub put_lighter : (room counted len frames waiting : ℕ) (put rest later : List Marked) → later ≡ put ++ rest → len ≡ length put → counted + len ≤ room
    → 2 * (room - (counted + len)) + length later + frames < 2 * (room - counted) + (waiting + length rest + 1) + frames
put_lighter room counted len frames waiting put rest later e l fits = omega (arith, ap length e, length-append put rest)
