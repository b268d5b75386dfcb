-- The example of document 01, "The replay program": these input lines give these output lines, whole. proofs/Examples.antt proves it.
-- Assumes nothing.
use Rattle.std.specs.Prelude.{ℕ, ◌≡◌, List, [], ◌∷◌, ◌++◌}
use Rattle.answers.specs.Letters.{N, F, R, T, H}
use Rattle.replay_log.specs.Replay.{replay}

abbrev tab : ℕ
tab = 9

abbrev line_feed : ℕ
line_feed = 10

-- F 3, F 3, R 3, N, T, H, R 64
unfoldable pub example_input : List ℕ
example_input =
    (F ∷ tab ∷ 51 ∷ line_feed ∷ [])
    ++ ((F ∷ tab ∷ 51 ∷ line_feed ∷ [])
    ++ ((R ∷ tab ∷ 51 ∷ line_feed ∷ [])
    ++ ((N ∷ line_feed ∷ [])
    ++ ((T ∷ line_feed ∷ [])
    ++ ((H ∷ line_feed ∷ [])
    ++ (R ∷ tab ∷ 54 ∷ 52 ∷ line_feed ∷ []))))))

-- board 1; F 0, F 1, R 1, N - 64, T 1, H 104, R 103
unfoldable pub example_output : List ℕ
example_output =
    (98 ∷ 111 ∷ 97 ∷ 114 ∷ 100 ∷ tab ∷ 49 ∷ line_feed ∷ [])
    ++ ((F ∷ tab ∷ 48 ∷ line_feed ∷ [])
    ++ ((F ∷ tab ∷ 49 ∷ line_feed ∷ [])
    ++ ((R ∷ tab ∷ 49 ∷ line_feed ∷ [])
    ++ ((N ∷ tab ∷ 45 ∷ tab ∷ 54 ∷ 52 ∷ line_feed ∷ [])
    ++ ((T ∷ tab ∷ 49 ∷ line_feed ∷ [])
    ++ ((H ∷ tab ∷ 49 ∷ 48 ∷ 52 ∷ line_feed ∷ [])
    ++ (R ∷ tab ∷ 49 ∷ 48 ∷ 51 ∷ line_feed ∷ [])))))))

pub record Example : Type 0 where
  pub gives : replay example_input ≡ example_output
