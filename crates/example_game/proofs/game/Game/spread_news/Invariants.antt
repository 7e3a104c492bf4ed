use Rattle.std.specs.VecDeque.{deque_len}
use Rattle.example_game.proofs.game.Game.spread_news.Given as goal

abbrev pub decreases-loop-news : goal.decreases-loop-news
decreases-loop-news g l = deque_len l.self.news
