-- The meaning of terms: which value a term has at a history, and in how many turns.
use Rattle.std.specs.Prelude.{◌≡◌, ◌≢◌, ℕ, suc, zero, ◌<◌, ◌≤◌, min, Bool, true, false, not, ◌&&◌, ◌==◌, List, [], ◌∷◌, length, reverse, Option, Some, None, slice_get, if◌then◌else◌}
use Rattle.chw_base.specs.declared.index.DomId.{DomId}
use Rattle.chw_bits.specs.Bits.{number_of}
use Rattle.chw_clock.specs.Histories.{before, taken}
use Rattle.chw_types.specs.declared.kind.Kind.{Kind}
use Rattle.chw_types.specs.declared.kind.Scalar.{Scalar}
use Rattle.chw_types.specs.declared.declarations.Data.{Data}
use Rattle.chw_types.specs.TypeTree.{TypeTree, TypeTrees, no_types, type_and}
use Rattle.chw_prims.specs.Schemas.{row_of}
use Rattle.chw_prims.specs.declared.prim.Primitive.{Primitive as Prim}
use Rattle.chw_prims.specs.declared.row.Row.{Row}
use Rattle.chw_prims.specs.declared.row.Row.TheVariants.{Compare, Reduce}
use Rattle.prim_bits.specs.Values.{value_of as word_value}
use Rattle.chw_terms.specs.declared.program.Def.{Def}
use Rattle.chw_terms.specs.declared.program.Program.{Program}
use Rattle.chw_terms.specs.declared.term.Pattern.{Pattern}
use Rattle.chw_terms.specs.declared.term.Pattern.TheVariants.{OfCon, OfLit, Default}
use Rattle.chw_terms.specs.Evaluated.{evaluated}
use Rattle.chw_terms.specs.TermTree.{TermTree, var, global, lam, app, ty_lam, ty_app, letrec, con, prim, lit, vec_lit, case_of, Terms, Group, Alts, no_alts, alt}
use Rattle.chw_layout.specs.Datum.{Datum}
use Rattle.chw_terms.specs.Constructors.{Constructor, con_at}
use Rattle.chw_meaning.specs.Zeros.{IsZero}
use Rattle.chw_meaning.specs.Values.{History, con_head, prim_head, Head, Value, bits, con_of, vec_of, closure, ty_closure, partial, Thunk, closed, applied, member, field, element, sample, stream, known, Thunks, none, thunk_and, thunk_at, closed_type, joined, in_group, body_at, fields_from, closed_all, value_of, item_at}
use Rattle.chw_meaning.specs.Steps.{Ram, Step, gives, goes_to, computes, samples, delays, remembers, looks_up, step}

-- a sum of turns, which computes at its first part
abbrev pub plus : ℕ → ℕ → ℕ
plus zero k = k
plus (suc m) k = suc (plus m k)

-- what a case does: it goes on with an alternative, or with the fields of the scrutinee's thunk,
-- or it looks at the scrutinee
pub data Choice : Type 0 where
  goes_on : TermTree → Choice
  takes : ℕ → TermTree → Choice
  looks : Choice

-- the constructor is the only one of its data type
abbrev pub is_only : Option Constructor → Bool
is_only None = false
is_only (Some c) = length c.it.cons == 1

abbrev pub by_fields : Bool → ℕ → TermTree → Choice
by_fields true n e = takes n e
by_fields false n e = looks

-- a default alone goes on, and so does a literal of width 0, since its scrutinee has no other value
abbrev pub choice : List Data → Alts → Choice
choice datas (alt (OfCon c n) e more) = by_fields (is_only (con_at datas c.number)) n e
choice datas (alt (OfLit s []) e more) = goes_on e
choice datas (alt Default e no_alts) = goes_on e
choice datas _ = looks

-- an alternative, on the thunks that its pattern binds
pub record Arm : Type 0 where
  pub fields : Thunks
  pub body : TermTree

abbrev pub same_bits : List Bool → List Bool → Bool
same_bits [] [] = true
same_bits (x ∷ xs) (y ∷ ys) = (if x then y else not y) && same_bits xs ys
same_bits _ _ = false

-- whether a value is one that the pattern is for
abbrev pub matches : Value → Pattern → Bool
matches v Default = true
matches (con_of c ths) (OfCon d n) = c == d.number
matches (bits b) (OfLit s a) = same_bits b a
matches _ _ = false

-- what a pattern binds of a value
abbrev pub bound : Value → Pattern → Thunks
bound (con_of c ths) (OfCon d n) = ths
bound _ _ = none

-- the first alternative that is for the value
abbrev pub arm_of : Value → Alts → Option Arm
arm_of v no_alts = None
arm_of v (alt q e more) =
    if matches v q then Some (record { fields = bound v q; body = e }) else arm_of v more

-- the result of a primitive on words: a comparison and a reduction give False or True
abbrev pub truth_of : List Bool → Value
truth_of (true ∷ []) = con_of 1 none
truth_of _ = con_of 0 none

abbrev pub result_by : Row → List Bool → Value
result_by (Compare s) b = truth_of b
result_by Reduce b = truth_of b
result_by _ b = bits b

abbrev pub result : Prim → List Bool → Value
result q b = result_by (row_of q) b

abbrev pub dom : ℕ → DomId
dom d = record { number = d }

-- the history up to the last tick of a block RAM's domain before the present event, if there is one
abbrev pub last_tick : Ram → History → Option History
last_tick ram h = before h (dom ram.dom)

mutual
  -- in its environment of thunks and closed types, the term has the value at the history, in so
  -- many turns
  pub data Evals (p : Program) : ℕ → TermTree → Thunks → TypeTrees → History → Value → Type 0 where
    e_var : {n x : ℕ} {γ : Thunks} {δ : TypeTrees} {h : History} {v : Value} {th : Thunk} → thunk_at γ x ≡ Some th → Forces p n th h v → Evals p (suc n) (var x) γ δ h v
    e_global : {n d : ℕ} {γ : Thunks} {δ : TypeTrees} {h : History} {v : Value} {it : Def} → slice_get p.defs d ≡ Some it → Evals p n it.body none no_types h v → Evals p (suc n) (global d) γ δ h v
    e_lam : {t : TypeTree} {e : TermTree} {γ : Thunks} {δ : TypeTrees} {h : History} → Evals p (suc zero) (lam t e) γ δ h (closure e γ δ)
    e_app : {m n : ℕ} {f a : TermTree} {γ : Thunks} {δ : TypeTrees} {h : History} {v w : Value} → Evals p m f γ δ h v → Applies p n v (closed a γ δ) h w → Evals p (suc (plus m n)) (app f a) γ δ h w
    e_ty_lam : {k : Kind} {e : TermTree} {γ : Thunks} {δ : TypeTrees} {h : History} → Evals p (suc zero) (ty_lam k e) γ δ h (ty_closure e γ δ)
    e_ty_app : {m n : ℕ} {f : TermTree} {t : TypeTree} {γ : Thunks} {δ : TypeTrees} {h : History} {v w : Value} → Evals p m f γ δ h v → TyApplies p n v (evaluated (closed_type t δ)) h w → Evals p (suc (plus m n)) (ty_app f t) γ δ h w
    e_letrec : {n : ℕ} {g : Group} {e : TermTree} {γ : Thunks} {δ : TypeTrees} {h : History} {v : Value} → Evals p n e (in_group g γ δ) δ h v → Evals p (suc n) (letrec g e) γ δ h v
    e_con : {n c : ℕ} {γ : Thunks} {δ : TypeTrees} {h : History} {v : Value} → Runs p n (step p.datas (con_head c) no_types none) h v → Evals p (suc n) (con c) γ δ h v
    e_prim : {n : ℕ} {q : Prim} {γ : Thunks} {δ : TypeTrees} {h : History} {v : Value} → Runs p n (step p.datas (prim_head q) no_types none) h v → Evals p (suc n) (prim q) γ δ h v
    e_lit : {s : Scalar} {b : List Bool} {γ : Thunks} {δ : TypeTrees} {h : History} → Evals p (suc zero) (lit s b) γ δ h (bits b)
    e_vec : {t : TypeTree} {es : Terms} {γ : Thunks} {δ : TypeTrees} {h : History} → Evals p (suc zero) (vec_lit t es) γ δ h (vec_of (closed_all es γ δ))
    e_goes_on : {n : ℕ} {s e : TermTree} {alts : Alts} {γ : Thunks} {δ : TypeTrees} {h : History} {v : Value} → choice p.datas alts ≡ goes_on e → Evals p n e γ δ h v → Evals p (suc n) (case_of s alts) γ δ h v
    e_takes : {n k : ℕ} {s e : TermTree} {alts : Alts} {γ : Thunks} {δ : TypeTrees} {h : History} {v : Value} → choice p.datas alts ≡ takes k e → Evals p n e (fields_from zero k (closed s γ δ) γ) δ h v → Evals p (suc n) (case_of s alts) γ δ h v
    e_looks : {m n : ℕ} {s : TermTree} {alts : Alts} {γ : Thunks} {δ : TypeTrees} {h : History} {v w : Value} {a : Arm} → choice p.datas alts ≡ looks → Evals p m s γ δ h v → arm_of v alts ≡ Some a → Evals p n a.body (joined a.fields γ) δ h w → Evals p (suc (plus m n)) (case_of s alts) γ δ h w

  -- the thunk has the value at the history
  pub data Forces (p : Program) : ℕ → Thunk → History → Value → Type 0 where
    f_closed : {n : ℕ} {e : TermTree} {γ : Thunks} {δ : TypeTrees} {h : History} {v : Value} → Evals p n e γ δ h v → Forces p n (closed e γ δ) h v
    f_applied : {m n : ℕ} {f a : Thunk} {h : History} {v w : Value} → Forces p m f h v → Applies p n v a h w → Forces p (suc (plus m n)) (applied f a) h w
    f_member : {n i : ℕ} {g : Group} {e : TermTree} {γ : Thunks} {δ : TypeTrees} {h : History} {v : Value} → body_at g i ≡ Some e → Evals p n e (in_group g γ δ) δ h v → Forces p (suc n) (member g i γ δ) h v
    f_field : {m n i c : ℕ} {th x : Thunk} {ths : Thunks} {h : History} {v : Value} → Forces p m th h (con_of c ths) → thunk_at ths i ≡ Some x → Forces p n x h v → Forces p (suc (plus m n)) (field i th) h v
    f_element : {m n j : ℕ} {th x : Thunk} {ths : Thunks} {h : History} {v : Value} → Forces p m th h (vec_of ths) → thunk_at ths j ≡ Some x → Forces p n x h v → Forces p (suc (plus m n)) (element j th) h v
    f_sample : {n : ℕ} {th : Thunk} {g h : History} {v : Value} → Forces p n th g v → Forces p n (sample th g) h v
    f_stream : {ds : List Datum} {d : Datum} {h : History} → item_at ds h ≡ Some d → Forces p (suc zero) (stream ds) h (value_of d)
    f_known : {d : Datum} {h : History} → Forces p (suc zero) (known d) h (value_of d)

  -- the value has, on the thunk, the other value
  pub data Applies (p : Program) : ℕ → Value → Thunk → History → Value → Type 0 where
    a_closure : {n : ℕ} {e : TermTree} {γ : Thunks} {δ : TypeTrees} {a : Thunk} {h : History} {v : Value} → Evals p n e (thunk_and a γ) δ h v → Applies p (suc n) (closure e γ δ) a h v
    a_runs : {n : ℕ} {hd : Head} {ts : TypeTrees} {ths : Thunks} {a : Thunk} {h : History} {v : Value} → Runs p n (step p.datas hd ts (thunk_and a ths)) h v → Applies p (suc n) (partial hd ts ths) a h v

  -- the value has, on the closed type, the other value
  pub data TyApplies (p : Program) : ℕ → Value → TypeTree → History → Value → Type 0 where
    t_closure : {n : ℕ} {e : TermTree} {γ : Thunks} {δ : TypeTrees} {t : TypeTree} {h : History} {v : Value} → Evals p n e γ (type_and t δ) h v → TyApplies p (suc n) (ty_closure e γ δ) t h v
    t_runs : {n : ℕ} {hd : Head} {ts : TypeTrees} {ths : Thunks} {t : TypeTree} {h : History} {v : Value} → Runs p n (step p.datas hd (type_and t ts) ths) h v → TyApplies p (suc n) (partial hd ts ths) t h v

  -- what a constructor or primitive does gives the value
  pub data Runs (p : Program) : ℕ → Step → History → Value → Type 0 where
    r_gives : {v : Value} {h : History} → Runs p zero (gives v) h v
    r_goes_to : {n : ℕ} {th : Thunk} {h : History} {v : Value} → Forces p n th h v → Runs p n (goes_to th) h v
    r_computes : {n : ℕ} {q : Prim} {nats widths : List ℕ} {ths : Thunks} {h : History} {bs : List (List Bool)} {b : List Bool} → Words p n widths ths h bs → word_value q nats (reverse bs) ≡ Some b → Runs p n (computes q nats widths ths) h (result q b)
    r_samples : {m n : ℕ} {f s : Thunk} {h : History} {v w : Value} → Forces p m f h v → Applies p n v (sample s h) h w → Runs p (suc (plus m n)) (samples f s) h w
    r_first : {n d : ℕ} {i s : Thunk} {h : History} {v : Value} → taken h (dom d) ≡ None → Forces p n i h v → Runs p n (delays d i s) h v
    r_later : {n d : ℕ} {i s : Thunk} {h g : History} {v : Value} → taken h (dom d) ≡ Some g → Forces p n s g v → Runs p n (delays d i s) h v
    r_zero_first : {ram : Ram} {h : History} {z : Datum} → last_tick ram h ≡ None → IsZero p.datas ram.payload z → Runs p zero (remembers ram) h (value_of z)
    r_zero_outside : {n : ℕ} {ram : Ram} {h g : History} {b : List Bool} {z : Datum} → last_tick ram h ≡ Some g → Looks p n ram.address ram.read g b → ram.size ≤ number_of b → IsZero p.datas ram.payload z → Runs p n (remembers ram) h (value_of z)
    r_word : {m n : ℕ} {ram : Ram} {h g : History} {b : List Bool} {v : Value} → last_tick ram h ≡ Some g → Looks p m ram.address ram.read g b → number_of b < ram.size → Word p n ram g (number_of b) v → Runs p (plus m n) (remembers ram) h v
    r_looks_up : {m n last k : ℕ} {v i : Thunk} {h : History} {b : List Bool} {w : Value} → Looks p m k i h b → Forces p n (element (min (number_of b) last) v) h w → Runs p (plus m n) (looks_up last k v i) h w

  -- the thunk of a scalar of this width has these bits; of width 0 it needs no evaluation
  pub data Looks (p : Program) : ℕ → ℕ → Thunk → History → List Bool → Type 0 where
    l_empty : {th : Thunk} {h : History} → Looks p zero zero th h []
    l_bits : {n k : ℕ} {th : Thunk} {h : History} {b : List Bool} → Forces p n th h (bits b) → Looks p n (suc k) th h b

  -- the thunks of scalars of these widths have these bits
  pub data Words (p : Program) : ℕ → List ℕ → Thunks → History → List (List Bool) → Type 0 where
    no_words : {h : History} → Words p zero [] none h []
    word_and : {m n k : ℕ} {ks : List ℕ} {th : Thunk} {ths : Thunks} {h : History} {b : List Bool} {bs : List (List Bool)} → Looks p m k th h b → Words p n ks ths h bs → Words p (plus m n) (k ∷ ks) (thunk_and th ths) h (b ∷ bs)

  -- the word at an address of a block RAM, as it is before the write of this history's present
  -- event
  pub data Word (p : Program) : ℕ → Ram → History → ℕ → Value → Type 0 where
    w_content : {n a : ℕ} {ram : Ram} {g : History} {v : Value} → last_tick ram g ≡ None → Forces p n (element a ram.content) g v → Word p n ram g a v
    w_kept : {m n a : ℕ} {ram : Ram} {g g' : History} {v : Value} → last_tick ram g ≡ Some g' → Forces p m ram.write g' (con_of 2 none) → Word p n ram g' a v → Word p (suc (plus m n)) ram g a v
    w_elsewhere : {m k n a : ℕ} {ram : Ram} {g g' : History} {pair : Thunk} {b : List Bool} {v : Value} → last_tick ram g ≡ Some g' → Forces p m ram.write g' (con_of 3 (thunk_and pair none)) → Looks p k ram.address (field 1 pair) g' b → number_of b ≢ a → Word p n ram g' a v → Word p (suc (plus m (plus k n))) ram g a v
    w_written : {m k n a : ℕ} {ram : Ram} {g g' : History} {pair : Thunk} {b : List Bool} {v : Value} → last_tick ram g ≡ Some g' → Forces p m ram.write g' (con_of 3 (thunk_and pair none)) → Looks p k ram.address (field 1 pair) g' b → number_of b ≡ a → Forces p n (field 0 pair) g' v → Word p (suc (plus m (plus k n))) ram g a v
