-- Words that are typed with a space after each are the words of their line.
use Rattle.std.proofs.Common.{◌≡◌, ℕ, cond, List, [], ◌∷◌, ◌++◌, filter, refl, ap, ◌∙◌, arith}
use Rattle.std.specs.List.{onto_first, AllByRecursion as All}
use Rattle.sheet.specs.Text.{blank, comment}
use Rattle.sheet.specs.Words.{said, pieces, some, runs, words_of, Plain, Typed, spaced}

said_word : (w rest : List ℕ) → All Plain w → said (w ++ rest) ≡ w ++ said rest
said_word [] rest h = refl
said_word (b ∷ w) rest h = ap (λ t. cond t [] (b ∷ said (w ++ rest))) h.0.1 ∙ ap (λ xs. b ∷ xs) (said_word w rest h.1)

said_all : (ws : List (List ℕ)) → All Typed ws → said (spaced ws) ≡ spaced ws
unfolding comment
said_all [] h = refl
said_all (w ∷ ws) h = said_word w (32 ∷ spaced ws) h.0.1 ∙ ap (λ xs. w ++ (32 ∷ xs)) (said_all ws h.1)

first_piece : (w rest : List ℕ) → All Plain w → pieces (w ++ (32 ∷ rest)) ≡ w ∷ pieces rest
unfolding blank
first_piece [] rest h = refl
first_piece (b ∷ w) rest h =
    ap (λ t. cond t ([] ∷ pieces (w ++ (32 ∷ rest))) (onto_first b (pieces (w ++ (32 ∷ rest))))) h.0.0
    ∙ ap (onto_first b) (first_piece w rest h.1)

first_word : (w rest : List ℕ) → Typed w → runs (w ++ (32 ∷ rest)) ≡ w ∷ runs rest
unfolding runs
first_word [] rest h = absurd (omega (arith, h.0))
first_word (b ∷ w) rest h = ap (filter some) (first_piece (b ∷ w) rest h.1)

runs_spaced : (ws : List (List ℕ)) → All Typed ws → runs (spaced ws) ≡ ws
unfolding runs
runs_spaced [] h = refl
runs_spaced (w ∷ ws) h = first_word w (spaced ws) h.0 ∙ ap (λ vs. w ∷ vs) (runs_spaced ws h.1)

pub words_spaced : (ws : List (List ℕ)) → All Typed ws → words_of (spaced ws) ≡ ws
unfolding words_of
words_spaced ws h = ap runs (said_all ws h) ∙ runs_spaced ws h
