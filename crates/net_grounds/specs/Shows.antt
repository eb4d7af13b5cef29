-- What is promised of the bits that thunks show.
use Rattle.std.specs.Prelude.{Bool, List, Some, length, ℕ, ◌≡◌}
use Rattle.carrying.specs.Carrying.{Holds, Shows}
use Rattle.chw_layout.specs.Datum.{Datum}
use Rattle.chw_layout.specs.Encodes.{Encodes}
use Rattle.chw_layout.specs.Measured.{HasWidth}
use Rattle.chw_meaning.specs.Eval.{Evals, Forces, Looks}
use Rattle.chw_meaning.specs.Values.{History, Thunk, Thunks, Value, body_at, closed, in_group}
use Rattle.chw_meaning.specs.Values.{item_at, known, member, sample, stream, thunk_at}
use Rattle.chw_meaning.specs.Writing.{shown}
use Rattle.chw_terms.specs.TermTree.{Group, TermTree, lit, var}
use Rattle.chw_terms.specs.declared.program.Program.{Program}
use Rattle.chw_types.specs.SamePromises.{SameValues}
use Rattle.chw_types.specs.TypeTree.{TypeTree, TypeTrees, scalar}
use Rattle.chw_types.specs.declared.kind.Scalar.{Scalar}
use Rattle.chw_typing.specs.Alike.{AreLike}
use Rattle.chw_typing.specs.Programs.{IsSound, setting_of}
use Rattle.type_laws.specs.SameKept.{FieldsKeepSame}

-- facts on the bits that thunks show
pub record ShowFacts : Type 0 where
  -- a thunk shows what another shows, if it has each value that the other has
  pub shows_through :
      {p : Program} {t : TypeTree} {th th' : Thunk} {h h' : History} {b : List Bool}
      → ((n : ℕ) (v : Value) → Forces p n th h v → (m : ℕ) × Forces p m th' h' v)
      → Shows p t th h b → Shows p t th' h' b
  -- what is shown at a type is shown at each that is alike
  pub shown_same :
      (p : Program) (sound : IsSound (setting_of p)) (values : SameValues) (keep : FieldsKeepSame)
      → {t u : TypeTree} {th : Thunk} {h : History} {b : List Bool}
      → Shows p t th h b → AreLike (setting_of p) t u → Shows p u th h b
  -- a thunk shows the bits that its value holds
  pub held_shows :
      {p : Program} {n : ℕ} {t : TypeTree} {th : Thunk} {h : History} {v : Value} {b : List Bool}
      (w : ℕ)
      → HasWidth p.datas t w → Forces p n th h v → Holds p t v b → Shows p t th h b
  -- as many bits are shown as the type is wide
  pub shown_length :
      {p : Program} {t : TypeTree} {th : Thunk} {h : History} {b : List Bool} {w : ℕ}
      → Shows p t th h b → HasWidth p.datas t w → length b ≡ w
  -- and as many are held
  pub held_length :
      {p : Program} {t : TypeTree} {v : Value} {b : List Bool} {w : ℕ}
      → Holds p t v b → HasWidth p.datas t w → length b ≡ w
  -- a word that is shown is what a look at the thunk finds
  pub shown_looks :
      {p : Program} {s : Scalar} {n : TypeTree} {th : Thunk} {h : History} {b : List Bool}
      → Shows p (scalar s n) th h b → (m : ℕ) × Looks p m (length b) th h b
  -- what a thunk of a term is forced to is what the term evaluates to
  pub opened :
      {p : Program} {n : ℕ} {e : TermTree} {γ : Thunks} {δ : TypeTrees} {h : History} {v : Value}
      → Forces p n (closed e γ δ) h v → Evals p n e γ δ h v
  -- a variable shows what its thunk shows
  pub variable_shows :
      {p : Program} {t : TypeTree} {x : ℕ} {th : Thunk} {γ : Thunks} {δ : TypeTrees} {h : History}
      {b : List Bool}
      → thunk_at γ x ≡ Some th → Shows p t th h b → Shows p t (closed (var x) γ δ) h b
  -- a member of a group shows what its right side shows inside the group
  pub member_shows :
      {p : Program} {t : TypeTree} {g : Group} {i : ℕ} {e : TermTree} {γ : Thunks} {δ : TypeTrees}
      {h : History} {b : List Bool}
      → body_at g i ≡ Some e → Shows p t (closed e (in_group g γ δ) δ) h b
      → Shows p t (member g i γ δ) h b
  -- a literal shows its bits
  pub literal_carries :
      (p : Program) (s : Scalar) (n : TypeTree) (b : List Bool) (γ : Thunks) (δ : TypeTrees)
      (h : History)
      → HasWidth p.datas (scalar s n) (length b) → Shows p (scalar s n) (closed (lit s b) γ δ) h b
  -- a sample shows at every history what its thunk shows at its own
  pub sample_shows :
      {p : Program} {t : TypeTree} {th : Thunk} {g : History} {b : List Bool}
      → Shows p t th g b → (h : History)
      → Shows p t (sample th g) h b
  -- a data value shows its encoding
  pub known_shows :
      {p : Program} {t : TypeTree} {d : Datum} {b : List Bool} (w : ℕ)
      → HasWidth p.datas t w → Encodes p.datas t d b → (h : History)
      → Shows p t (known d) h b
  -- a stream shows the encoding of its present data value
  pub stream_shows :
      {p : Program} {t : TypeTree} {ds : List Datum} {d : Datum} {h : History} {b : List Bool}
      (w : ℕ)
      → HasWidth p.datas t w → item_at ds h ≡ Some d → Encodes p.datas t d b
      → Shows p t (stream ds) h b
  -- a value that the evaluator finds is one that the thunk has
  pub shown_is_so :
      (p : Program) (th : Thunk) (h : History) (v : Value)
      → shown p th h ≡ Some v → (n : ℕ) × Forces p n th h v
