-- What the service's thread holds.
use Rattle.enet_submit.specs.declared.queue.SubmitQueue.{SubmitQueue}
use Rattle.enet_submit.specs.declared.token.Drain.{Drain}
use Rattle.enet_events.specs.Words.{Queue, PosterState}
use Rattle.enet_bridge.specs.declared.source.QueueSource.{QueueSource}
use Rattle.enet_bridge.specs.declared.sink.QueueSink.{QueueSink}

-- the queue of a source, and the drain by which it takes
abbrev pub queue_of : QueueSource → SubmitQueue
queue_of source = source.queue.now

abbrev pub drain_of : QueueSource → Drain
drain_of source = source.drain

-- the queue of a sink, and the poster by which it posts
abbrev pub sink_queue : QueueSink → Queue
sink_queue sink = sink.queue.now

abbrev pub poster_of : QueueSink → PosterState
poster_of sink = sink.poster
