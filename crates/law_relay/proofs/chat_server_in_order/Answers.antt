use Rattle.law_relay.proofs.Chat.{each-served, each-has-served, each-cut-off, each-serves-on, of-chat-server, of-chat-threads}
use Rattle.law_relay.proofs.chat_server_in_order.Goals as goal

pub returns-clause-runs : goal.returns-clause-runs
returns-clause-runs c = each-served

pub returns-clause-served : goal.returns-clause-served
returns-clause-served c = each-has-served

pub returns-clause-cut_off : goal.returns-clause-cut_off
returns-clause-cut_off c = each-cut-off

pub returns-clause-chats : goal.returns-clause-chats
returns-clause-chats c = of-chat-server

pub returns-clause-threads : goal.returns-clause-threads
returns-clause-threads c = of-chat-threads

pub returns-clause-serves_on : goal.returns-clause-serves_on
returns-clause-serves_on c = each-serves-on
