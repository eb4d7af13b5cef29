-- A run is the longest token where all that begins there is made of bytes of the run.
use Rattle.std.proofs.Common.{◌≡◌, ℕ, suc, zero, ◌≤◌, Bool, true, false, List, [], ◌∷◌, ◌++◌, take, drop, sym, ◌∙◌, subst, arith}
use Rattle.std.specs.Prelude.{IsTrue}
use Rattle.std.proofs.lemmas.Bool.{false≢true, or_left, or_right}
use Rattle.std.proofs.lemmas.List.{take-append-drop}
use Rattle.chw_base.specs.Names.{AllOf, BeginsThen, is_small_letter, is_capital, is_letter_or_digit, is_name_byte, is_keyword}
use Rattle.chw_lexer.specs.Forms.{HasForm}
use Rattle.chw_lexer.specs.Scanning.{BeginsWith, IsRun, IsTokenAt}
use Rattle.chw_lexer.specs.declared.token.Sort.{Sort}
use Rattle.chw_lexer.specs.declared.token.Sort.TheVariants.{Lower, Upper, Key, Numeral, Literal, Symbol}
use Rattle.chw_lexer.proofs.Firsts.{First, form_first, small_range, capital_range, keyword_begins}
use Rattle.chw_lexer.proofs.Runs.{within_run}

-- the run from a first byte that passes
pub begins_run : (first other : ℕ → Bool) (bytes : List ℕ) (n : ℕ) → ((b : ℕ) → IsTrue (first b) → IsTrue (other b)) → BeginsWith first bytes → IsRun other bytes n → BeginsThen first other (take n bytes)
begins_run first other [] n widens begins run = absurd begins
begins_run first other (b ∷ bytes) zero widens begins run = absurd (false≢true (sym run.stops ∙ widens b begins))
begins_run first other (b ∷ bytes) (suc n) widens begins run = (begins, run.passes.1)

-- a run is the longest token, if each token that begins there is of bytes of the run
pub longest_run : (test : ℕ → Bool) (bytes : List ℕ) (n : ℕ) (sort : Sort) → IsRun test bytes n → HasForm sort (take n bytes) → ((other : Sort) (word more : List ℕ) → word ++ more ≡ bytes → HasForm other word → AllOf test word) → IsTokenAt bytes sort n
longest_run test bytes n sort run form others = record {
  within = run.within;
  longest = record {
    form = form;
    longest = λ other word more same has. within_run test (take n bytes) (drop n bytes) word more run.passes run.stops (others other word more (same ∙ take-append-drop n bytes) has) same;
  };
}

-- two lists that are one begin with one byte
pub same_head : (b c : ℕ) (bytes others : List ℕ) → b ∷ bytes ≡ c ∷ others → b ≡ c
same_head b c bytes others same = cc

small_is_name : (b : ℕ) → IsTrue (is_small_letter b) → IsTrue (is_name_byte b)
small_is_name b small = or_left (is_letter_or_digit b) _ (or_left (is_small_letter b) _ small)

capital_is_letter : (b : ℕ) → IsTrue (is_capital b) → IsTrue (is_letter_or_digit b)
capital_is_letter b capital = or_right (is_small_letter b) _ (or_left (is_capital b) _ capital)

-- what begins with a small letter is of name bytes
small_form : (sort : Sort) (b : ℕ) (bytes : List ℕ) → (97 ≤ b) × (b ≤ 122) → First sort b → HasForm sort (b ∷ bytes) → AllOf is_name_byte (b ∷ bytes)
small_form Lower b bytes small first form = (small_is_name b form.0.0, form.0.1)
small_form Upper b bytes small first form = absurd (omega arith)
small_form Key b bytes small first form =
    let begins = keyword_begins (b ∷ bytes) form in (small_is_name b begins.0, begins.1)
small_form Numeral b bytes small first form = absurd (omega arith)
small_form Literal b bytes small first form = absurd (omega arith)
small_form Symbol b bytes small first form = absurd (omega arith)

small_word : (bytes : List ℕ) → BeginsWith is_small_letter bytes → (sort : Sort) (word more : List ℕ) → word ++ more ≡ bytes → HasForm sort word → AllOf is_name_byte word
small_word bytes begins sort [] more same form = tt
small_word [] begins sort (w ∷ word) more same form = absurd begins
small_word (b ∷ bytes) begins sort (w ∷ word) more same form =
    let head : w ≡ b = cc in
    small_form sort w word (subst (λ x. (97 ≤ x) × (x ≤ 122)) (sym head) (small_range b begins)) (form_first sort w word form) form

-- a name or a keyword
pub lower_token : (bytes : List ℕ) (n : ℕ) → BeginsWith is_small_letter bytes → IsRun is_name_byte bytes n → is_keyword (take n bytes) ≡ false → IsTokenAt bytes Lower n
lower_token bytes n begins run no_key =
    longest_run is_name_byte bytes n Lower run (begins_run is_small_letter is_name_byte bytes n small_is_name begins run, no_key) (small_word bytes begins)

pub key_token : (bytes : List ℕ) (n : ℕ) → BeginsWith is_small_letter bytes → IsRun is_name_byte bytes n → is_keyword (take n bytes) ≡ true → IsTokenAt bytes Key n
key_token bytes n begins run key = longest_run is_name_byte bytes n Key run key (small_word bytes begins)

-- what begins with a capital is of letters and digits
capital_form : (sort : Sort) (b : ℕ) (bytes : List ℕ) → (65 ≤ b) × (b ≤ 90) → First sort b → HasForm sort (b ∷ bytes) → AllOf is_letter_or_digit (b ∷ bytes)
capital_form Lower b bytes capital first form = absurd (omega arith)
capital_form Upper b bytes capital first form = (capital_is_letter b form.0, form.1)
capital_form Key b bytes capital first form = absurd (omega arith)
capital_form Numeral b bytes capital first form = absurd (omega arith)
capital_form Literal b bytes capital first form = absurd (omega arith)
capital_form Symbol b bytes capital first form = absurd (omega arith)

capital_word : (bytes : List ℕ) → BeginsWith is_capital bytes → (sort : Sort) (word more : List ℕ) → word ++ more ≡ bytes → HasForm sort word → AllOf is_letter_or_digit word
capital_word bytes begins sort [] more same form = tt
capital_word [] begins sort (w ∷ word) more same form = absurd begins
capital_word (b ∷ bytes) begins sort (w ∷ word) more same form =
    let head : w ≡ b = cc in
    capital_form sort w word (subst (λ x. (65 ≤ x) × (x ≤ 90)) (sym head) (capital_range b begins)) (form_first sort w word form) form

pub upper_token : (bytes : List ℕ) (n : ℕ) → BeginsWith is_capital bytes → IsRun is_letter_or_digit bytes n → IsTokenAt bytes Upper n
upper_token bytes n begins run =
    longest_run is_letter_or_digit bytes n Upper run (begins_run is_capital is_letter_or_digit bytes n capital_is_letter begins run) (capital_word bytes begins)
