-- Load for C: the shape and both sets as 81 words in a lent output.
use Rattle.std.specs.Prelude.{ℕ, ◌+◌, ◌*◌, cond, List, [], ◌∷◌, ◌++◌, length, drop, ltb, Result, Ok, Err}
use Rattle.layout.specs.declared.Shape.{Shape}
use Rattle.layout.specs.declared.Refusal.TheVariants.{Small}
use Rattle.image.specs.declared.Loaded.{Loaded}
use Rattle.image.specs.Loading.{unit_set_words, map_set_words, loaded}
use Rattle.answers.specs.declared.Answer.{Answer}
use Rattle.answers.specs.Numbers.{given, refused}
use Rattle.layout.specs.declared.Refusal.{Refusal}

-- "Load answers P, C, M, N and both": 4 numbers, 72 words, 5 words
abbrev pub load_words : ℕ
load_words = 4 + unit_set_words + map_set_words

abbrev pub shape_words : Shape → List ℕ
shape_words g = g.p ∷ g.c ∷ g.m ∷ g.n ∷ []

-- one after the other
abbrev pub words_of : Loaded → List ℕ
words_of l = shape_words l.shape ++ (l.units ++ l.maps)

-- 10 "lent output too short", with the "bytes needed", after the image's own refusals; otherwise the value is R, the reserved units: "load answers it"
abbrev pub loading_answer : Result Loaded Refusal → ℕ → Answer
loading_answer (Ok l) room = cond (ltb room load_words) (refused (Small (8 * load_words))) (given l.shape.r 0)
loading_answer (Err r) room = refused r

abbrev pub load_answer : List ℕ → ℕ → Answer
load_answer s room = loading_answer (loaded s) room

-- "A refusal changes nothing lent ..; an answer changes nothing past what it writes."
abbrev pub loading_out : Result Loaded Refusal → List ℕ → List ℕ
loading_out (Ok l) out = cond (ltb (length out) load_words) out (words_of l ++ drop load_words out)
loading_out (Err r) out = out

-- the lent output afterwards
abbrev pub load_out : List ℕ → List ℕ → List ℕ
load_out s out = loading_out (loaded s) out
