pub mod RestLength
pub mod PollCalls
