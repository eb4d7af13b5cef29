-- The uses among made definitions, and what a made definition is as a whole.
use Rattle.std.specs.Prelude.{◌≡◌, ℕ, Bool, true, false, ◌||◌, ◌==◌, List, Some}
use Rattle.std.specs.List.{slice_get}
use Rattle.chw_terms.specs.declared.scene.Made.{Made}
use Rattle.chw_terms.specs.TermTree.{TermTree, var, global, made, lam, app, ty_lam, ty_app}
use Rattle.chw_terms.specs.TermTree.{letrec, con, prim, lit, vec_lit, case_of, Terms, no_terms}
use Rattle.chw_terms.specs.TermTree.{term_and, Group, no_bindings, bind, Alts, no_alts, alt}
use Rattle.graph_order.specs.References.{HasNoCycle}
use Rattle.rewriting.specs.Origins.{with_origins}

abbrev mutual
  -- whether a made definition stands in a term
  pub names_made : TermTree → ℕ → Bool
  names_made (var x) n = false
  names_made (global d) n = false
  names_made (made m) n = m == n
  names_made (lam t e) n = names_made e n
  names_made (app f a) n = names_made f n || names_made a n
  names_made (ty_lam k e) n = names_made e n
  names_made (ty_app f t) n = names_made f n
  names_made (letrec g e) n = group_names_made g n || names_made e n
  names_made (con c) n = false
  names_made (prim p) n = false
  names_made (lit s bs) n = false
  names_made (vec_lit t es) n = any_names_made es n
  names_made (case_of s alts) n = names_made s n || alts_name_made alts n

  pub any_names_made : Terms → ℕ → Bool
  any_names_made no_terms n = false
  any_names_made (term_and e es) n = names_made e n || any_names_made es n

  pub group_names_made : Group → ℕ → Bool
  group_names_made no_bindings n = false
  group_names_made (bind t e g) n = names_made e n || group_names_made g n

  pub alts_name_made : Alts → ℕ → Bool
  alts_name_made no_alts n = false
  alts_name_made (alt q e more) n = names_made e n || alts_name_made more n

-- a made definition uses another: that one stands in its body
abbrev pub Uses : List Made → ℕ → ℕ → Type 0
Uses state from to =
    (it : Made) × (slice_get state from ≡ Some it) × (names_made it.body to ≡ true)

-- none uses itself, by however many others
abbrev pub IsAcyclic : List Made → Type 0
IsAcyclic state = HasNoCycle (Uses state)

-- a made definition as a whole: its body with each one that it uses replaced by that one's whole
pub data WholeOf (state : List Made) : ℕ → TermTree → Type 0 where
  whole_of : {m : ℕ} {it : Made} (wholes : ℕ → TermTree)
      → slice_get state m ≡ Some it
      → ((n : ℕ) → Uses state m n → WholeOf state n (wholes n))
      → WholeOf state m (with_origins wholes it.body)
