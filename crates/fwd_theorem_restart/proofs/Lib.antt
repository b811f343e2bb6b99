mod NearDisk
mod SyncedByLoading
mod RestartedRun
