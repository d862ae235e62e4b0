mod FeedLaws
