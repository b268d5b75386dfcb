-- A log that comes piece by piece: what has been answered so far, and what stands over of a line that has not ended. Assumes nothing.
use Rattle.std.specs.Prelude.{ℕ, ◌≡◌, List, [], ◌∷◌, ◌++◌, take, if◌then◌else◌}
use Rattle.board.specs.Plain.{◌=?◌}
use Rattle.answers.specs.Answer.{head}
use Rattle.replay_log.specs.Replay.{State, answer, replay}
use Rattle.replay_log.specs.Memory.{Memory, shown, Holds}
use Rattle.replay_log.specs.Promise.{Begins}

-- the state after the lines that have ended, their answers, and what has come of the next line
pub record Fed : Type 0 where
  pub state : State
  pub line : List ℕ
  pub text : List ℕ

-- the same, with earlier answers before it
abbrev pub after : List ℕ → Fed → Fed
after text f = record { state = f.state; line = f.line; text = text ++ f.text }

-- bytes, one after the other, behind what has come of a line: a line feed ends it
unfoldable pub fed : State → (line : List ℕ) → List ℕ → Fed
fed s l [] = record { state = s; line = l; text = [] }
fed s l (c ∷ cs) = if c =? 10 then after (answer s l).text (fed (answer s l).state [] cs) else fed s (l ++ (c ∷ [])) cs

-- at the end of the input, a line that has no line feed is answered too
abbrev pub last_answer : State → (line : List ℕ) → List ℕ
last_answer s [] = []
last_answer s (c ∷ cs) = (answer s (c ∷ cs)).text

-- ---- what the functions promise

-- From the memory m to m' by these bytes, with this text written: a memory that holds a state still holds one; the state, the text and
-- what stands over, of which at most 401 bytes are kept, are the definition's.
pub record Feeds (m m' : Memory) (bytes left text : List ℕ) : Type 0 where
  pub holds : Holds m → Holds m'
  pub state : Holds m → shown m' ≡ (fed (shown m) [] bytes).state
  pub says : Holds m → text ≡ (fed (shown m) [] bytes).text
  pub keeps : Holds m → left ≡ take 401 (fed (shown m) [] bytes).line

-- the end of the input, with what stood over
abbrev pub Ends : Memory → (left text : List ℕ) → Type 0
Ends m left text = Holds m → text ≡ last_answer (shown m) left

-- ---- a whole log

-- From the memory m with what stands over, through these pieces of input, with these texts written, to m' and what stands over then. A
-- piece is read behind what stood over.
pub data Through (m' : Memory) (left' : List ℕ) : Memory → List ℕ → List (List ℕ) → List (List ℕ) → Type 0 where
  start : Through m' left' m' left' [] []
  turn : (m n : Memory) (left kept piece text : List ℕ) (pieces texts : List (List ℕ))
      → Feeds m n (left ++ piece) kept text
      → Through m' left' n kept pieces texts
      → Through m' left' m left (piece ∷ pieces) (text ∷ texts)

-- end to end
unfoldable pub joined : List (List ℕ) → List ℕ
joined [] = []
joined (l ∷ more) = l ++ joined more

-- On a memory that `Replay::new` made, however the input was cut into pieces: the head line, the texts and the last answer are the replay of
-- the whole input.
pub record WholeLog : Type 0 where
  pub replays : {m m' : Memory} {left' : List ℕ} {pieces texts : List (List ℕ)} {last : List ℕ}
      → Begins m
      → Through m' left' m [] pieces texts
      → Ends m' left' last
      → head ++ (joined texts ++ last) ≡ replay (joined pieces)
